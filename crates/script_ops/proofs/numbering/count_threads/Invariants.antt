use Rattle.std.proofs.Common.{◌≡◌, ◌≤◌, ◌*◌, length, take}
use Rattle.script_ops.specs.declared.limits.TheConstants.{MOST_PHASE_THREADS}
use Rattle.script_ops.specs.Values.{threads_in}
use Rattle.script_ops.proofs.numbering.count_threads.Given as goal

abbrev pub invariant-loop-phase : goal.invariant-loop-phase
invariant-loop-phase l = record {
  count : l.count ≡ length (threads_in (take l.phase-index l.phases));
  few : l.count ≤ MOST_PHASE_THREADS * l.phase-index;
}
