use Rattle.pair_play.proofs.Flushes.{AreFlushed}
use Rattle.pair_play.proofs.level.flush_each.Given as goal

abbrev pub invariant-loop-cache : goal.invariant-loop-cache
invariant-loop-cache l = AreFlushed l.op l.epoch l.cache-index l.initial.cache-items l.cache-items
