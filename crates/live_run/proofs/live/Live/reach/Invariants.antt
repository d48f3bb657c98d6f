use Rattle.std.proofs.Common.{true}
use Rattle.live_run.proofs.live.Live.reach.Given as goal
use Rattle.live_run.specs.Accesses.{IsTurning, turns_left}
use Rattle.live_run.specs.CachedTags.{HoldsCached, IsNoted}
use Rattle.live_run.specs.Sharing.{IsResting, op_after}

abbrev pub invariant-loop-turn : goal.invariant-loop-turn
invariant-loop-turn g l = record {
  turning : IsTurning g.N.RunNames.script l.access.number l.access.task l.access.cpu l.access.addr l.fn.side.seen l.side.seen l.turn;
  worker : IsResting g.T.NamedTable.table l.fn.side.seen.thread (op_after l.access.number l.turn) true l.side.share;
  cached : HoldsCached g.N.RunNames.script l.side.seen l.side.cached;
  noted : IsNoted l.side.share l.side.cached;
}

abbrev pub decreases-loop-turn : goal.decreases-loop-turn
decreases-loop-turn g l = turns_left g.N.RunNames.script l.turn
