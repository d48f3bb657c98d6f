-- The states of the tree at each moment are sound.
use Rattle.std.proofs.Common.{length, subst, arith}
use Rattle.std.proofs.Math.Seq.{take-length}
use Rattle.run_law.proofs.laws.SoundHistories.{IsSound-take}
use Rattle.run_law.specs.TreeHistory.{tree_after}
use Rattle.script_ops.specs.Values.{IsLawful, ScriptValue}
use Rattle.step_world.specs.Machine.{MachineValue}
use Rattle.step_world.specs.Moments.{IsRunSoFar}
use Rattle.tree_law.specs.Sound.{IsSound}

-- the state of a moment is
pub IsSound-now : (script : ScriptValue) (s : MachineValue) → IsLawful script → IsRunSoFar script s → IsSound script.machine (tree_after script s.journals.tree)
IsSound-now script s lawful so_far = subst (λ hs. IsSound script.machine (tree_after script hs)) (take-length s.journals.tree) (IsSound-take script s.journals.tree lawful so_far.legal.tree_legal (length s.journals.tree) (omega arith))
