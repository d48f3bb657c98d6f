use Rattle.std.proofs.Common.{length}
use Rattle.journal_text.proofs.Progress.{HasComeTo}
use Rattle.journal_text.proofs.reading.read_with.Given as goal

abbrev pub invariant-lines : goal.invariant-lines
invariant-lines g l = HasComeTo l.script l.text l.number l.left l.reader.position (g.K.Keeper.keeps l.reader.keeper l.script)

abbrev pub decreases-lines : goal.decreases-lines
decreases-lines g l = length l.left
