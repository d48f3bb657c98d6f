use Rattle.std.specs.Int.{bit_at}
use Rattle.std.proofs.lemmas.Bool.{eq-eqb}
use Rattle.std.proofs.lemmas.Nat.Bits.{bit_at_ones}
use Rattle.way_curve.proofs.SlotWords.{slots_of-holes}
use Rattle.way_curve.proofs.recent_lines.RecentLines.new.Goals as goal

pub returns : goal.returns
returns c = slots_of-holes 4294967295 _ (λ k lt. eq-eqb (bit_at 4294967295 k) 1 (bit_at_ones 32 k lt))
