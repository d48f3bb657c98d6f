-- What contracts see of the tree.
-- (For functions and proofs: no promise of the program stands on it.)
use Rattle.std.specs.Prelude.{ℕ}
use Rattle.pair_law.specs.State.{PairState}
use Rattle.pair_text.specs.Values.{Machines}

-- the machines of the tree, its state, and how many commands it has taken
pub record PairTreeValue : Type 0 where
  pub machines : Machines
  pub state : PairState
  pub epoch : ℕ
