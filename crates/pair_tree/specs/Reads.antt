-- The text that a command reads.
-- (For functions and proofs: no promise of the program stands on it.)
use Rattle.std.specs.Prelude.{ℕ, List, []}
use Rattle.pair_law.specs.State.{PairState}
use Rattle.pair_law.specs.Texts.{text_of}
use Rattle.pair_text.specs.Values.{Machines}
use Rattle.pair_text.specs.declared.op.PairOp.{PairOp}
use Rattle.pair_text.specs.declared.op.PairOp.TheVariants as ops

-- the text of a read's file; no other op reads one
abbrev pub text_read : Machines → PairState → PairOp → List ℕ
text_read m s (ops.Read file) = text_of m s file
text_read m s op = []
