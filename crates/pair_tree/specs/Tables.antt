-- The tables of the tree, and the state that they stand for.
-- (For functions and proofs: no promise of the program stands on it.)
use Rattle.pair_law.specs.State.{PairState}
use Rattle.pair_tree.specs.declared.tables.Tables.{Tables}

-- the state, each part read from its table
abbrev pub state_of : Tables → PairState
state_of t = record { groups = t.groups.items; tasks = t.tasks; next_gid = t.next_gid }
