use Rattle.std.proofs.Common.{◌≡◌, take}
use Rattle.std.specs.Prelude.{sum_by}
use Rattle.journal_text.proofs.weight.script_weight.Given as goal
use Rattle.script_ops.specs.Values.{threads_of}
use Rattle.script_ops.specs.Weights.{weights_of}

abbrev pub invariant-loop-t : goal.invariant-loop-t
invariant-loop-t l = l.weight ≡ sum_by (weights_of l.script.machine) (take l.t (threads_of l.script))
