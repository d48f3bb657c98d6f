use Rattle.std.proofs.Common.{◌≡◌, ◌+◌, length, take}
use Rattle.script_ops.specs.Values.{threads_in}
use Rattle.script_ops.proofs.numbering.find_ops.Given as goal

abbrev pub invariant-loop-phase : goal.invariant-loop-phase
invariant-loop-phase l = l.left + length (threads_in (take l.phase-index l.phases)) ≡ l.thread
