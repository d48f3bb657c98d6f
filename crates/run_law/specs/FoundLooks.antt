-- What the looks of a command have found.
-- (For functions and proofs: no promise of the program stands on it.)
use Rattle.std.specs.List.{flat_map, range_with_len}
use Rattle.lists.specs.Sums.{sum_below}
use Rattle.std.specs.Prelude.{List, map, slice_get, slice_index_or, ℕ, ◌+◌, ◌*◌, ◌≡◌}
use Rattle.machine.specs.Slices.{slice_number}
use Rattle.machine.specs.declared.parameters.Parameters.{Parameters}
use Rattle.run_law.specs.Journals.{At, JournalsValue, slice_at}
use Rattle.run_law.specs.Looks.{first_look}
use Rattle.run_law.specs.TreeHistory.{TreeEntryValue, tree_after}
use Rattle.script_ops.specs.Values.{ScriptValue}
use Rattle.script_ops.specs.declared.op.Op.{Op}
use Rattle.tree_law.specs.Steps.{needs}

-- the slices and RMIDs of the looks for one (domain, RMID)
abbrev pub pairs_of : Parameters → ℕ × ℕ → List (ℕ × ℕ)
pairs_of m need = map (λ x. (slice_number m need.0 x, need.1)) (range_with_len 0 m.slices)

-- the slices and RMIDs of all looks, in the order of the steps
abbrev pub look_pairs : Parameters → List (ℕ × ℕ) → List (ℕ × ℕ)
look_pairs m needs = flat_map (pairs_of m) needs

-- no element is there twice
abbrev pub AreDistinct : {A : Type 0} → List A → Type 0
AreDistinct {A = A} xs = (q r : ℕ) (x : A) → At xs q x → At xs r x → q ≡ r

-- The first looks of an op found these numbers, and the looks after them are not made yet.
abbrev pub HasFound : JournalsValue → ℕ → ℕ → List (ℕ × ℕ) → List ℕ → Type 0
HasFound j t n pairs found = (r : ℕ) (pair : ℕ × ℕ) → At pairs r pair → first_look t n pair.1 (slice_at j pair.0) ≡ slice_get found r

-- the pairs of the looks of a command after this history
abbrev pub pairs_for : ScriptValue → List TreeEntryValue → Op → List (ℕ × ℕ)
pairs_for script tree op = look_pairs script.machine (needs script.machine (tree_after script tree) op)

-- the sum of the first numbers found for a count: one for each slice of its domain
abbrev pub found_at : ℕ → List ℕ → ℕ → ℕ → ℕ
found_at slices found q number = sum_below number (λ x. slice_index_or found (q * slices + x) 0)
