-- The slices in which a follow-up is entered, one after the other.
-- (For functions and proofs: no promise of the program stands on it.)
use Rattle.std.specs.Prelude.{ℕ}
use Rattle.machine.specs.Slices.{slice_number, slice_of_line}
use Rattle.machine.specs.declared.parameters.Parameters.{Parameters}
use Rattle.tree_law.specs.Steps.{Target, EachSlice, SliceOf, goes_to}
use Rattle.tree_law.specs.declared.follow.Follow.{Follow}

-- how many slices a target has
abbrev pub slices_at : Parameters → Target → ℕ
slices_at m (EachSlice domain) = m.slices
slices_at m (SliceOf domain line) = 1

-- the x-th slice of a target
abbrev pub slice_in : Parameters → Target → ℕ → ℕ
slice_in m (EachSlice domain) x = slice_number m domain x
slice_in m (SliceOf domain line) x = slice_of_line m domain line

-- how many slices a follow-up is entered in
abbrev pub slices_for : Parameters → Follow → ℕ
slices_for m f = slices_at m (goes_to f)

-- the x-th slice in which a follow-up is entered
abbrev pub slice_for : Parameters → Follow → ℕ → ℕ
slice_for m f x = slice_in m (goes_to f) x
