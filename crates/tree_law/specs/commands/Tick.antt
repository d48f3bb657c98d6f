-- tick: the RMIDs in limbo are tested.
-- (Kernel documentation, `max_threshold_occupancy`.)
use Rattle.std.specs.Prelude.{ℕ, List}
use Rattle.machine.specs.declared.parameters.Parameters.{Parameters}
use Rattle.tree_law.specs.Freeing.{counts_of, staying_in_limbo}
use Rattle.tree_law.specs.State.{State}

-- the counts of each RMID in limbo, rising, in each domain
unfoldable pub needs : Parameters → State → List (ℕ × ℕ)
needs m s = counts_of m s.limbo

-- the RMIDs whose bytes pass the threshold in some domain stay in limbo
unfoldable pub accepted : Parameters → State → List ℕ → State
accepted m s looks = record s { limbo = staying_in_limbo m s.threshold s.limbo looks }
