-- No floor is past the tree's history: what follows a command is no step back, and a fresh tag is not stale.
use Rattle.std.proofs.Common.{◌≡◌, ℕ, ◌≤◌, length, Some, None, refl}
use Rattle.cache_core.specs.History.{floor_of}
use Rattle.run_law.specs.Journals.{slice_at}
use Rattle.script_ops.specs.Values.{ScriptValue}
use Rattle.run_law.proofs.laws.LegalHistories.{floor_within}
use Rattle.step_world.proofs.laws.MachineStates.{at_can_be, tree_can_be}
use Rattle.step_world.specs.Machine.{MachineValue, thread_at}
use Rattle.step_world.specs.declared.thread_state.ThreadState.TheVariants.{Following}
use Rattle.step_world.specs.Moments.{CanBe, IsRunSoFar}

-- while the history can only be what it is
pub floor_so_far : (script : ScriptValue) (s : MachineValue) (i : ℕ) → CanBe s s.holder s.journals.tree → IsRunSoFar script s → floor_of (slice_at s.journals i) ≤ length s.journals.tree
floor_so_far script s i can so_far = floor_within (length s.journals.tree) (slice_at s.journals i) (λ p e there. (so_far.kept s.journals.tree can).of_begun.epochs i p e there)

-- what follows the command that was decided last may raise each floor to its epoch
pub floor_following : (script : ScriptValue) (s : MachineValue) (t made i : ℕ) → s.holder ≡ Some t → (thread_at s t).state ≡ Following made → IsRunSoFar script s
    → floor_of (slice_at s.journals i) ≤ length s.journals.tree
floor_following script s t made i held place so_far = floor_so_far script s i (at_can_be s s.holder t (Following made) s.journals.tree held place refl) so_far

-- a tag of the present epoch is not stale while nobody holds the tree
pub floor_free : (script : ScriptValue) (s : MachineValue) (i : ℕ) → s.holder ≡ None → IsRunSoFar script s → floor_of (slice_at s.journals i) ≤ length s.journals.tree
floor_free script s i free so_far = floor_so_far script s i (tree_can_be s s.holder free) so_far
