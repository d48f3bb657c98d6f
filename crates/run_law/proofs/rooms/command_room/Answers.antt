use Rattle.std.proofs.Common.{arith}
use Rattle.script_ops.specs.Values.{threads_of}
use Rattle.run_law.proofs.laws.RoomSums.{sum-all}
use Rattle.run_law.proofs.rooms.command_room.Goals as goal
use Rattle.run_law.specs.Quotas.{command_count, commands_of}

pub returns : goal.returns
unfolding command_count
returns c = sum-all commands_of (threads_of c.args.script.now) c.loop-t.t c.loop-t.room (omega (arith, c.loop-t-test.false, c.loop-t.auto.t-end, c.threads-t-end.ensures.threads)) c.loop-t.invariant.sum
