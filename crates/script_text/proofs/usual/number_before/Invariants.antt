use Rattle.std.proofs.Common.{length}
use Rattle.script_text.proofs.NumberReading.{SpellsSoFar}
use Rattle.script_text.proofs.usual.number_before.Given as goal

abbrev pub invariant-digits : goal.invariant-digits
invariant-digits l = SpellsSoFar l.text l.n l.left

abbrev pub decreases-digits : goal.decreases-digits
decreases-digits l = length l.left
