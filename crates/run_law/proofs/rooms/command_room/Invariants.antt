use Rattle.std.proofs.Common.{◌≡◌, ◌*◌, ◌≤◌, take}
use Rattle.std.specs.Prelude.{sum_by}
use Rattle.script_ops.specs.Values.{threads_of}
use Rattle.script_ops.specs.declared.limits.TheConstants.{MOST_WEIGHT}
use Rattle.run_law.specs.Quotas.{commands_of}
use Rattle.run_law.proofs.rooms.command_room.Given as goal

abbrev pub invariant-loop-t : goal.invariant-loop-t
invariant-loop-t l = record {
  sum : l.room ≡ sum_by commands_of (take l.t (threads_of l.script));
  few : l.room ≤ l.t * MOST_WEIGHT;
}
