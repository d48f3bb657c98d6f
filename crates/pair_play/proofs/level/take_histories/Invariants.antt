use Rattle.std.proofs.Common.{map}
use Rattle.run_law.specs.Entries.{entries_of}
use Rattle.pair_play.specs.Histories.{AreTaken}
use Rattle.pair_play.proofs.level.take_histories.Given as goal

abbrev pub invariant-loop-cache : goal.invariant-loop-cache
invariant-loop-cache l = AreTaken l.yielded (map entries_of l.all.items)
