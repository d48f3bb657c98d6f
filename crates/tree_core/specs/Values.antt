-- What contracts see of the tree.
-- (For functions and proofs: no promise of the program stands on it.)
use Rattle.std.specs.Prelude.{ℕ}
use Rattle.machine.specs.declared.parameters.Parameters.{Parameters}
use Rattle.tree_law.specs.State.{State}

-- the machine of the tree, its state, and how many commands it has taken
pub record TreeValue : Type 0 where
  pub machine : Parameters
  pub state : State
  pub epoch : ℕ

-- the tree of these parts
abbrev pub tree_of : Parameters → State → ℕ → TreeValue
tree_of m s epoch = record { machine = m; state = s; epoch = epoch }
