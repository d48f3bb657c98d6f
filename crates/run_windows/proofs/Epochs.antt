-- The states of a run's epochs, one after the other.
use Rattle.std.proofs.Common.{◌≡◌, ℕ, ◌+◌, [], ◌∷◌, ◌++◌, take, Some, sym, subst, ap, ◌∙◌}
use Rattle.std.proofs.lemmas.List.{take_more}
use Rattle.std.proofs.lemmas.Option.{get_or_from_slice_get, slice_get_within}
use Rattle.run_law.proofs.laws.Tasks.{tasks_of-tree_after}
use Rattle.run_law.proofs.laws.TreeHistory.{tree_after-push}
use Rattle.run_law.specs.Journals.{At, JournalsValue}
use Rattle.run_law.specs.TreeHistory.{TreeEntryValue, tree_after}
use Rattle.script_ops.specs.Fits.{Fits}
use Rattle.script_ops.specs.Values.{ScriptValue, op_at}
use Rattle.script_ops.specs.declared.op.Op.{Op}
use Rattle.tree_law.specs.State.{tasks_of}
use Rattle.tree_law.specs.Steps.{next}
use Rattle.run_windows.specs.Epochs.{state_at}
use Rattle.run_windows.specs.WindowLaws.{EpochsAreSound}
use Rattle.run_law.proofs.laws.SoundHistories.{IsSound-take}

-- the state of the next epoch is the one after the command at this one
pub state_at-suc : (script : ScriptValue) (j : JournalsValue) (k : ℕ) (h : TreeEntryValue) (op : Op) → At j.tree k h → op_at script h.thread h.op ≡ Some op → state_at script j (k + 1) ≡ (next script.machine (state_at script j k) op h.looks).state
state_at-suc script j k h op there is =
    let first : take (k + 1) j.tree ≡ take k j.tree ++ h ∷ [] = take_more j.tree k h (slice_get_within j.tree k h there) ∙ ap (λ (x : TreeEntryValue). take k j.tree ++ x ∷ []) (get_or_from_slice_get j.tree k h h there) in
    ap (tree_after script) first ∙ tree_after-push script (take k j.tree) h op is

-- an op that fits the script fits the tree of each epoch
pub Fits-state_at : (script : ScriptValue) (j : JournalsValue) (k : ℕ) (op : Op) → Fits script.machine script.tasks op → Fits script.machine (tasks_of (state_at script j k)) op
Fits-state_at script j k op fits = subst (λ ts. Fits script.machine ts op) (sym (tasks_of-tree_after script (take k j.tree))) fits

-- the state of every epoch of a run is sound
pub IsSound-state_at : EpochsAreSound
IsSound-state_at script j lawful run epoch known = IsSound-take script j.tree lawful run.tree_legal epoch known
