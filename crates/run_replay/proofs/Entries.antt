-- The entries of a legal history of the tree, in the states before them.
use Rattle.std.proofs.Common.{◌≡◌, ℕ, ◌<◌, List, length, map, take, get_or, Option, None, Some, refl, sym, ap, ◌∙◌, subst}
use Rattle.std.specs.List.{All}
use Rattle.std.specs.Prelude.{IsTrue, is_some}
use Rattle.std.proofs.lemmas.Option.{same_Some, slice_get-get_or, slice_get_within}
use Rattle.machine.specs.Ranges.{InRange}
use Rattle.rc_base.proofs.laws.Histories.{EachFollows-at}
use Rattle.run_replay.proofs.laws.Playbacks.{At-entries, state_before-entries}
use Rattle.run_replay.specs.Playbacks.{HasTaken, state_before}
use Rattle.run_replay.specs.Replayed.{HasFewLooks, IsAnswered, IsAnsweredAs, IsCounted}
use Rattle.run_law.proofs.laws.Looks.{looks-few}
use Rattle.run_law.specs.Entries.{entry_value}
use Rattle.run_law.specs.Journals.{At, JournalsValue}
use Rattle.run_law.specs.Runs.{IsRun}
use Rattle.run_law.specs.TreeHistory.{CommandMayFollow, IsCommandThat, IsLegalTree, TreeEntryValue, tree_after, tree_from}
use Rattle.run_law.specs.declared.journals.TreeEntry.{TreeEntry}
use Rattle.script_ops.specs.Values.{ScriptValue, op_at}
use Rattle.script_ops.specs.declared.op.Op.{Op}
use Rattle.tree_core.specs.Values.{TreeValue}
use Rattle.tree_law.specs.State.{State, opening}
use Rattle.tree_law.specs.Steps.{needs, next}

-- what stands at a position of a list
At-get_or : (tree : List TreeEntryValue) (k : ℕ) (h : TreeEntryValue) → At tree k h → get_or tree k h ≡ h
At-get_or tree k h there = same_Some (get_or tree k h) h (sym (slice_get-get_or tree k h (slice_get_within tree k h there)) ∙ there)

-- a command is there
pub is_some-command : (P : Op → Type 0) (o : Option Op) → IsCommandThat P o → IsTrue (is_some o)
is_some-command P None there = absurd there
is_some-command P (Some op) there = refl

-- what is said of a command is said of the op that is there
pub IsCommandThat-some : (P : Op → Type 0) (o : Option Op) (op : Op) → IsCommandThat P o → o ≡ Some op → P op
IsCommandThat-some P None op there same = absurd there
IsCommandThat-some P (Some c) op there same = subst P (let e : c ≡ op = cc in e) there.1

-- the entry at a position of a legal history was answered as the state before it answers it
pub IsAnswered-position : (script : ScriptValue) (tree : List TreeEntryValue) (k : ℕ) (h : TreeEntryValue) → IsLegalTree script tree → At tree k h → IsAnswered script (state_before script tree k) h
unfolding tree_after
IsAnswered-position script tree k h legal there =
    let within = slice_get_within tree k h there in
    as_one (op_at script h.thread h.op) (subst (λ x. CommandMayFollow script (take k tree) x) (At-get_or tree k h there) (EachFollows-at (CommandMayFollow script) tree k h legal within))
  where
    as_one : (o : Option Op)
        → IsCommandThat (λ op. (length h.looks ≡ length (needs script.machine (state_before script tree k) op)) × (h.reply ≡ (next script.machine (state_before script tree k) op h.looks).reply)) o
        → IsCommandThat (IsAnsweredAs script.machine (state_before script tree k) h) o
    as_one None own = own
    as_one (Some op) own = (own.0, record { looks = own.1.0; reply = own.1.1 })

-- the same of an entry of a list
pub IsAnswered-at : (script : ScriptValue) (es : List TreeEntry) (k : ℕ) (e : TreeEntry) → IsLegalTree script (map entry_value es) → k < length es → e ≡ get_or es k e
    → IsAnswered script (tree_from script (opening script.machine script.tasks) (map entry_value (take k es))) (entry_value e)
IsAnswered-at script es k e legal within is =
    subst (λ s. IsAnswered script s (entry_value e)) (state_before-entries es (map entry_value es) refl script k)
    (IsAnswered-position script (map entry_value es) k (entry_value e) legal (At-entries es (map entry_value es) refl k e within is))

-- the next entry was answered as the tree answers it
pub IsAnswered-next : (script : ScriptValue) (tree : List TreeEntryValue) (t : TreeValue) (k : ℕ) (h : TreeEntryValue) → HasTaken script tree t → t.epoch ≡ k → At tree k h → IsAnswered script t.state h
IsAnswered-next script tree t k h taken at there = subst (λ s. IsAnswered script s h) (sym (taken.state ∙ ap (state_before script tree) at)) (IsAnswered-position script tree k h taken.legal there)

-- so that it has its counts
pub IsCounted-answered : (script : ScriptValue) (s : State) (h : TreeEntryValue) → IsAnswered script s h → IsCounted script s h
IsCounted-answered script s h answered = at (op_at script h.thread h.op) answered
  where
    at : (o : Option Op) → IsCommandThat (IsAnsweredAs script.machine s h) o → IsCommandThat (λ op. length h.looks ≡ length (needs script.machine s op)) o
    at None there = there
    at (Some op) there = (there.0, there.1.looks)

-- its op was answered so
pub IsAnsweredAs-op : (script : ScriptValue) (s : State) (h : TreeEntryValue) (op : Op) → IsAnswered script s h → op_at script h.thread h.op ≡ Some op → IsAnsweredAs script.machine s h op
IsAnsweredAs-op script s h op answered is = IsCommandThat-some (IsAnsweredAs script.machine s h) (op_at script h.thread h.op) op answered is

-- ---- the counts that entries were given

-- the entry at a position of a history whose entries were given few
pub HasFewLooks-position : (tree : List TreeEntryValue) (k : ℕ) (h : TreeEntryValue) → All HasFewLooks tree → At tree k h → HasFewLooks h
HasFewLooks-position tree k h few there = subst HasFewLooks (At-get_or tree k h there) (few k h (slice_get_within tree k h there))

-- those of a run were
pub HasFewLooks-run : (script : ScriptValue) (j : JournalsValue) → InRange script.machine → IsRun script j → All HasFewLooks j.tree
HasFewLooks-run script j range run = λ k d within. looks-few script j range run k (get_or j.tree k d) (slice_get-get_or j.tree k d within)
