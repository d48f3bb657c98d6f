-- A thread takes the tree for a command.
use Rattle.std.proofs.Common.{◌≡◌, ℕ, ◌+◌, ◌^◌, ◌<◌, ◌≤◌, inl, inr, List, [], ◌∷◌, ◌++◌, length, map, true, false, Bool, None, Some, refl, sym, ap, ap₂, ◌∙◌, subst, arith}
use Rattle.std.specs.Prelude.{IsTrue}
use Rattle.std.specs.List.{flat_map}
use Rattle.std.proofs.Math.Seq.{take-append_seam, take-length}
use Rattle.std.proofs.lemmas.Bool.{cases_Bool}
use Rattle.std.proofs.lemmas.List.{map-append}
use Rattle.std.proofs.lemmas.List.Elements.{All-nil}
use Rattle.atomic_table.specs.Seated.{TableId}
use Rattle.cache_core.specs.declared.entry.SliceEntry.{SliceEntry}
use Rattle.live_law.proofs.laws.CommandStages.{IsLooking-take}
use Rattle.live_law.proofs.laws.LaterViews.{PassesKeepFrom-more}
use Rattle.live_law.proofs.laws.OwnRoom.{HasRoom-op}
use Rattle.live_law.specs.DoneOps.{AreEnded}
use Rattle.live_law.specs.Passes.{PassesKeepFrom}
use Rattle.live_law.specs.Stages.{IsLooking, IsReady}
use Rattle.live_law.specs.Room.{HasRoom, commands_from, tree_quota}
use Rattle.seen_journal.proofs.laws.Entries.{list_of-append}
use Rattle.live_run.proofs.Readings.{All-op_at, next-reading}
use Rattle.live_run.proofs.Trees.{lists_of, lists_same, tree_meets}
use Rattle.live_run.specs.Cells.{ArePasses, TreeCellValue, TreeIsKept}
use Rattle.live_run.specs.Names.{SeenValue, history_of, seen_by}
use Rattle.live_run.specs.Commands.{LooksAt, shown_after, shown_where}
use Rattle.live_run.specs.Sharing.{IsResting, holding}
use Rattle.live_run.specs.Steps.{HasTaken, HaveGrown, HaveSeenSame}
use Rattle.lists.specs.Sums.{one_if}
use Rattle.machine.specs.declared.parameters.Parameters.{Parameters}
use Rattle.run_law.specs.Entries.{entry_value}
use Rattle.run_law.specs.Jobs.{Job, follow_jobs, follows_of, jobs_of, look_jobs, looks_of}
use Rattle.run_law.specs.Journals.{JournalsValue}
use Rattle.run_law.proofs.laws.NeededCounts.{needs-few}
use Rattle.run_law.specs.Ops.{is_command}
use Rattle.run_law.specs.TreeHistory.{TreeEntryValue, tree_after}
use Rattle.run_law.specs.declared.journals.TreeEntry.{TreeEntry}
use Rattle.schedule_law.specs.LiveParts.{after as after_event, live_tree}
use Rattle.schedule_law.specs.declared.part.Happening.TheVariants as happenings
use Rattle.schedule_law.specs.declared.part.Part.{Part}
use Rattle.script_ops.specs.Values.{IsLawful, ScriptValue, op_at}
use Rattle.script_ops.specs.Canonical.{IsNamed, IsShort}
use Rattle.script_ops.specs.declared.op.Op.{Op}
use Rattle.seen_journal.specs.Entries.{list_of}
use Rattle.seen_journal.specs.Journals.{JournalName}
use Rattle.seen_journal.specs.Passes.{PassValue}
use Rattle.shared_parts.specs.Parts.{parts_after}
use Rattle.shared_parts.specs.Shares.{ShareValue}
use Rattle.step_world.specs.declared.thread_state.ThreadState.TheVariants.{Looking}
use Rattle.run_law.proofs.laws.SoundHistories.{Fits-op_at, IsSound-take}
use Rattle.run_law.specs.Quotas.{most_counts}
use Rattle.file_view.specs.Texts.{is_reading}
use Rattle.rc_base.specs.declared.replies.Reply.{Reply}
use Rattle.rc_base.specs.declared.replies.Reply.TheVariants as replies
use Rattle.tree_core.proofs.laws.KnownNames.{named_next}
use Rattle.tree_core.specs.Named.{AreNamed}
use Rattle.tree_law.specs.Sound.{IsSound}
use Rattle.tree_law.specs.State.{State}
use Rattle.tree_law.specs.Steps.{after, needs, next}
use Rattle.tree_law.proofs.laws.Counts.{NamesDomain-fits}

-- a history with a command more
pub history_push : (xs : List (ℕ × TreeEntry)) (n : ℕ) (e : TreeEntry) → history_of (xs ++ (n, e) ∷ []) ≡ history_of xs ++ entry_value e ∷ []
history_push xs n e = ap (map entry_value) (list_of-append xs ((n, e) ∷ [])) ∙ map-append entry_value (list_of xs) (e ∷ [])

-- what a command owes does not hang on itself
pub looks_same : (script : ScriptValue) (hs : List TreeEntryValue) (h : TreeEntryValue) (op : Op) → looks_of script (hs ++ h ∷ []) (length hs) op ≡ looks_of script hs (length hs) op
unfolding looks_of
looks_same script hs h op = ap (λ xs. flat_map (look_jobs script.machine (length hs)) (needs script.machine (tree_after script xs) op)) (take-append_seam hs (h ∷ []) ∙ sym (take-length hs))

follows_same : (script : ScriptValue) (hs : List TreeEntryValue) (h : TreeEntryValue) (op : Op) → follows_of script (hs ++ h ∷ []) (length hs) op ≡ follows_of script hs (length hs) op
unfolding follows_of
follows_same script hs h op = ap (λ xs. flat_map (follow_jobs script.machine (length hs + 1)) (after script.machine (tree_after script xs) (length hs) op)) (take-append_seam hs (h ∷ []) ∙ sym (take-length hs))

pub jobs_same : (script : ScriptValue) (hs : List TreeEntryValue) (h : TreeEntryValue) (op : Op) → jobs_of script (hs ++ h ∷ []) (length hs) op ≡ jobs_of script hs (length hs) op
jobs_same script hs h op = ap₂ (λ (xs ys : List Job). xs ++ ys) (looks_same script hs h op) (follows_same script hs h op)

-- the state of a cell's tree is sound
pub state_sound : (script : ScriptValue) (table : TableId) (tree : JournalName) (slices : List JournalName) (c : TreeCellValue) → TreeIsKept script table tree slices c → IsSound script.machine (tree_after script (history_of c.journal.entries))
state_sound script table tree slices c kept =
    let hs : List TreeEntryValue = history_of c.journal.entries in
    subst (λ xs. IsSound script.machine (tree_after script xs)) (take-length hs) (IsSound-take script hs kept.lawful kept.keeps.legal (length hs) (omega arith))

-- a read or a list leaves the state, so that what is shown after it is what it showed before
shown_after-next : (script : ScriptValue) (m : Parameters) (old new : State) (op : Op) (looks : List ℕ) (reply : Reply) (shown : List ℕ) → new ≡ (next m old op looks).state → shown_after script new op looks reply shown ≡ shown_after script old op looks reply shown
shown_after-next script m old new op looks (replies.Refused errno why arg) shown is = refl
shown_after-next script m old new op looks replies.Ok shown is = elim (cases_Bool (is_reading op)) [
  | inl reads ↦ ap (λ (x : State). shown_after script x op looks replies.Ok shown) (is ∙ next-reading m old op looks reads)
  | inr other ↦ rw other refl
]

pub shown_where-next : (asked : Bool) (script : ScriptValue) (m : Parameters) (old new : State) (op : Op) (looks : List ℕ) (reply : Reply) (shown : List ℕ) → new ≡ (next m old op looks).state
    → shown_where asked script new op looks reply shown ≡ shown_where asked script old op looks reply shown
shown_where-next true script m old new op looks reply shown is = shown_after-next script m old new op looks reply shown is
shown_where-next false script m old new op looks reply shown is = refl

-- ---- it takes the tree

module _ (script : ScriptValue) (table : TableId) (tree : JournalName) (slices : List JournalName) (c : TreeCellValue) (kept : TreeIsKept script table tree slices c) (now : List (PassValue SliceEntry)) (passes : ArePasses script slices now) (grown : HaveGrown c.slices now) (s met : SeenValue) (n : ℕ) (op : Op) (is : op_at script s.thread n ≡ Some op) (command : IsTrue (is_command op)) (taken : HasTaken s met) (whole : met.tree.seen ≡ c.journal.entries) (same : HaveSeenSame now met.slices) (ready : IsReady script s.thread n (seen_by s)) where
  abbrev at_first : JournalsValue
  at_first = record { tree = history_of c.journal.entries; slices = lists_of now }

  -- what the thread has seen when it took the tree
  first_was : seen_by met ≡ at_first
  first_was = ap₂ (λ (hs : List TreeEntryValue) (ls : List (List SliceEntry)). record { tree = hs; slices = ls }) (ap history_of whole) (sym (lists_same now met.slices same))

  looking : IsLooking script ready.start s.thread n op [] at_first
  looking =
      IsLooking-take script ready.start s.thread n op at_first kept.lawful is command kept.keeps.legal (tree_meets script table tree slices c kept now passes grown).keeps.made
      (subst (λ (v : JournalsValue). PassesKeepFrom script ready.start s.thread n n n v) first_was (PassesKeepFrom-more script ready.start s.thread n n n (seen_by s) (seen_by met) taken.sees ready.keeps))

  -- it has room for its counts
  pub counts_few : length (needs script.machine (tree_after script (history_of c.journal.entries)) op) ≤ most_counts script.machine op
  counts_few = needs-few script.machine (tree_after script at_first.tree) op (state_sound script table tree slices c kept) (NamesDomain-fits script.machine script.tasks op (Fits-op_at script s.thread n op kept.lawful is))

  -- it looks from here
  pub command_looks : (worker worker_now : ShareValue Part) → IsResting table s.thread n true worker → worker_now.table ≡ worker.table → worker_now.parts ≡ parts_after after_event (happenings.Take s.thread) (c.share.parts ++ worker.parts)
      → LooksAt script table n op 0 0 0 [] met worker_now
  command_looks worker worker_now resting same_table stepped = record {
    start = ready.start;
    ended = subst (λ u. AreEnded script ready.start u) (sym taken.thread) ready.ended;
    found = [];
    given = resting.given;
    is = subst (λ u. IsLooking script ready.start u n op [] (seen_by met)) (sym taken.thread) (subst (λ (v : JournalsValue). IsLooking script ready.start s.thread n op [] v) (sym first_was) looking);
    made = omega arith;
    count = refl;
    each = λ p less. absurd (omega (arith, less));
    few = All-nil (λ n. n ≤ 2 ^ 32);
    lines_are = refl;
    bound = omega arith;
    share_is = record {
      table_is = same_table ∙ resting.is.table_is;
      words = resting.is.words;
      parts_are =
          stepped
          ∙ (ap (λ l. parts_after after_event (happenings.Take s.thread) (l ++ worker.parts)) kept.share_is.parts_are
          ∙ (ap (λ l. parts_after after_event (happenings.Take s.thread) (live_tree (list_of c.journal.entries) None ∷ l)) resting.is.parts_are
          ∙ ap₂ (λ (es : List (ℕ × TreeEntry)) t. holding (list_of es) t n (Looking 0) [] resting.given) (sym whole) (sym taken.thread)));
    };
  }

-- there is room for it in the tree's history
pub ready-room : (script : ScriptValue) (t n : ℕ) (op : Op) (v : JournalsValue) → op_at script t n ≡ Some op → IsTrue (is_command op) → IsReady script t n v → length (commands_from v t) < tree_quota script t
ready-room script t n op v is command ready =
    let room : HasRoom script t op v = HasRoom-op script t n op v is (record { start = ready.start; ended = λ some. ready.ended; keeps = ready.keeps }) in
    omega (arith, room.commands, ap one_if command)

-- the names of groups stay the script's
pub named-next : (script : ScriptValue) (m : Parameters) (old new : State) (t n : ℕ) (op : Op) (looks : List ℕ) → IsLawful script → op_at script t n ≡ Some op → new ≡ (next m old op looks).state → AreNamed script.names old.groups → AreNamed script.names new.groups
named-next script m old new t n op looks lawful is state named =
    subst (λ (x : State). AreNamed script.names x.groups) (sym state)
    (named_next script.names m old op looks (All-op_at (IsNamed (length script.names)) script t n op lawful.named is) (All-op_at (IsShort script.names) script t n op lawful.short is) named)
