-- The control groups that commands made, and the serial number of the next group, one command after the other.
use Rattle.std.proofs.Common.{◌≡◌, ℕ, ◌+◌, ◌<◌, List, [], ◌∷◌, ◌++◌, length, map, take, get_or, Option, Some, Result, Ok, Err, refl, sym, subst, ap, ◌∙◌, arith}
use Rattle.std.specs.Prelude.{OnOk}
use Rattle.std.proofs.lemmas.List.Elements.{All-append, All-cons}
use Rattle.std.proofs.lemmas.List.{length-append}
use Rattle.path_names.specs.declared.dirs.DirRef.TheVariants.{Ctrl}
use Rattle.path_names.specs.declared.path_ref.PathRef.TheVariants.{Dir}
use Rattle.rc_base.specs.declared.replies.Reply.{Reply}
use Rattle.rc_base.specs.declared.replies.Reply.TheVariants as replies
use Rattle.run_law.proofs.laws.TreeHistory.{tree_from-push}
use Rattle.run_law.specs.Entries.{entry_value}
use Rattle.run_law.specs.TreeHistory.{IsLegalTree, TreeEntryValue, state_after, tree_from}
use Rattle.run_law.specs.declared.journals.TreeEntry.{TreeEntry}
use Rattle.run_replay.proofs.Entries.{IsAnswered-at}
use Rattle.run_replay.proofs.Serials.{next_gid-answered, serials_taken-few}
use Rattle.run_replay.proofs.laws.Steps.{made_from-push, map-take_suc}
use Rattle.run_replay.specs.GroupHistories.{IsHistory, made_as, serials_taken}
use Rattle.run_replay.specs.Made.{made_by, made_from}
use Rattle.run_replay.specs.Replayed.{AreKnownGroups}
use Rattle.run_replay.specs.declared.group_history.GroupHistory.{GroupHistory}
use Rattle.run_replay.specs.declared.made_group.MadeGroup.{MadeGroup}
use Rattle.script_ops.specs.Canonical.{IsNamed}
use Rattle.script_ops.specs.Values.{ScriptValue, op_at}
use Rattle.script_ops.specs.declared.op.Op.{Op}
use Rattle.script_ops.specs.declared.op.Op.TheVariants.{Mkdir}
use Rattle.tree_law.specs.State.{State, opening}

-- the group that an op makes takes the next serial number
made_as-next : (s : State) (op : Option Op) (reply : Reply) → made_as s.next_gid op reply ≡ made_by s op reply
made_as-next s (Some (Mkdir (Dir (Ctrl name)))) replies.Ok = refl
made_as-next s op reply = refl

-- ---- names

-- none was made
AreKnownGroups-nil : (names : List (List ℕ)) → AreKnownGroups names []
AreKnownGroups-nil names = λ k d h. absurd (omega arith)

-- an op makes groups with names of the script
AreKnownGroups-made_as : (names : List (List ℕ)) (gid : ℕ) (op : Op) (reply : Reply) → IsNamed (length names) op → AreKnownGroups names (made_as gid (Some op) reply)
AreKnownGroups-made_as names gid (Mkdir (Dir (Ctrl name))) replies.Ok known = All-cons (λ (m : MadeGroup). m.name.0 < length names) _ [] (known 0 0 (omega arith)) (AreKnownGroups-nil names)
AreKnownGroups-made_as names gid op reply known = AreKnownGroups-nil names

-- and those of before
pub AreKnownGroups-more : (names : List (List ℕ)) (old new : List MadeGroup) (gid : ℕ) (op : Op) (reply : Reply) → AreKnownGroups names old → IsNamed (length names) op → new ≡ old ++ made_as gid (Some op) reply → AreKnownGroups names new
AreKnownGroups-more names old new gid op reply known named is =
    subst (λ (all : List MadeGroup). AreKnownGroups names all) (sym is) (All-append (λ (m : MadeGroup). m.name.0 < length names) old (made_as gid (Some op) reply) known (AreKnownGroups-made_as names gid op reply named))

-- what is shown of an `Ok` by a fact
pub OnOk-map : {A E : Type 0} {P Q : Type 0} (r : Result A E) → (P → Q) → OnOk r P → OnOk r Q
OnOk-map (Ok a) f p = f p
OnOk-map (Err e) f p = tt

-- ---- histories

-- no command was taken yet
pub IsHistory-opening : (script : ScriptValue) (history : GroupHistory) → history.made.items ≡ [] → history.next_gid ≡ 1 → IsHistory script (opening script.machine script.tasks) [] history
IsHistory-opening script history made next = record {
  made = made;
  next = next;
  few = omega (arith, next);
  known = subst (λ (all : List MadeGroup). AreKnownGroups script.names all) (sym made) (AreKnownGroups-nil script.names);
}

-- one command more
pub IsHistory-next : (script : ScriptValue) (es : List TreeEntry) (k : ℕ) (e : TreeEntry) (old new : GroupHistory) → IsLegalTree script (map entry_value es) → k < length es → e ≡ get_or es k e
    → IsHistory script (opening script.machine script.tasks) (map entry_value (take k es)) old
    → new.made.items ≡ old.made.items ++ made_as old.next_gid (op_at script e.thread e.op) e.reply → new.next_gid ≡ old.next_gid + serials_taken e.reply (op_at script e.thread e.op) → AreKnownGroups script.names new.made.items
    → IsHistory script (opening script.machine script.tasks) (map entry_value (take (k + 1) es)) new
IsHistory-next script es k e old new legal within is before made next known =
    let start : State = opening script.machine script.tasks in
    let hs : List TreeEntryValue = map entry_value (take k es) in
    let h : TreeEntryValue = entry_value e in
    let now : State = tree_from script start hs in
    let op : Option Op = op_at script e.thread e.op in
    let more : map entry_value (take (k + 1) es) ≡ hs ++ h ∷ [] = map-take_suc es k e within is in
    let after : tree_from script start (map entry_value (take (k + 1) es)) ≡ state_after script.machine now e.looks.numbers op = ap (tree_from script start) more ∙ tree_from-push script start hs h in
    record {
      made =
          made
          ∙ (ap (λ (all : List MadeGroup). all ++ made_as old.next_gid op e.reply) before.made
          ∙ (ap (λ n. made_from script start hs ++ made_as n op e.reply) before.next
          ∙ (ap (λ (one : List MadeGroup). made_from script start hs ++ one) (made_as-next now op e.reply)
          ∙ sym (ap (made_from script start) more ∙ made_from-push script start hs h))));
      next =
          next
          ∙ (ap (λ n. n + serials_taken e.reply op) before.next
          ∙ (sym (next_gid-answered script now h (IsAnswered-at script es k e legal within is)) ∙ sym (ap (λ (t : State). t.next_gid) after)));
      few =
          let most = serials_taken-few e.reply op in
          let had = before.few in
          let count : length (map entry_value (take (k + 1) es)) ≡ length hs + 1 = ap (λ (l : List TreeEntryValue). length l) more ∙ length-append hs (h ∷ []) in
          omega (arith, most, had, next, count);
      known = known;
    }
