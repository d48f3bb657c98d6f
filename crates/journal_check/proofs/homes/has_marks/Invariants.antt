use Rattle.std.proofs.Common.{◌≡◌, ℕ, ◌<◌, Some, false}
use Rattle.std.specs.Prelude.{slice_get}
use Rattle.run_law.specs.Ops.{is_command}
use Rattle.script_ops.specs.declared.op.Op.{Op}
use Rattle.journal_check.proofs.homes.has_marks.Given as goal

abbrev pub invariant-loop-i : goal.invariant-loop-i
invariant-loop-i l = (k n : ℕ) (c : Op) → k < l.i → slice_get l.ops k ≡ Some c → is_command c ≡ false → slice_get l.marks k ≡ Some n → n ≡ 1
