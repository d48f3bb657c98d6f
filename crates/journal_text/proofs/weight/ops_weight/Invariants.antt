use Rattle.std.proofs.Common.{◌≡◌, take}
use Rattle.journal_text.proofs.weight.ops_weight.Given as goal
use Rattle.machine.specs.Maps.{parameters_of}
use Rattle.script_ops.specs.Weights.{weights_of}

abbrev pub invariant-loop-i : goal.invariant-loop-i
invariant-loop-i l = l.weight ≡ weights_of (parameters_of l.m) (take l.i l.ops)
