-- How many places of a slice can pass a test.
use Rattle.std.proofs.Common.{ℕ, ◌*◌, ◌≤◌, Bool, List, Option, arith}
use Rattle.std.specs.Prelude.{if◌then◌else◌, is_some}
use Rattle.cache_core.specs.Fills.{Resident}
use Rattle.cache_core.specs.History.{Shape, held, is_of, is_own, lines_of, places_where, valid_of}
use Rattle.cache_core.specs.declared.entry.SliceEntry.{SliceEntry}
use Rattle.lists.specs.Sums.{one_if, sum_below}
use Rattle.lists.proofs.Sums.{cond-le, one_if-le, sum_below-le}

-- at most all places of its domain
pub places_where-le : (m : Shape) (p : Option Resident → Bool) (entries : List SliceEntry) → places_where m p entries ≤ m.sets * m.ways
places_where-le m p entries =
    let full : ℕ → ℕ → ℕ = λ set way. one_if (p (held m entries set way)) in
    let row : ℕ → ℕ = λ set. sum_below m.ways (λ way. full set way) in
    sum_below-le m.sets m.ways (λ set. if is_own m set then row set else 0)
    (λ set. cond-le (is_own m set) (row set) m.ways
    (let all : row set ≤ m.ways * 1 = sum_below-le m.ways 1 (λ way. full set way) (λ way. one_if-le (p (held m entries set way))) in
    omega (arith, all)))

-- lines of an RMID
pub lines_of-le : (m : Shape) (entries : List SliceEntry) (rmid : ℕ) → lines_of m entries rmid ≤ m.sets * m.ways
lines_of-le m entries rmid = places_where-le m (is_of rmid) entries

-- lines of any
pub valid_of-le : (m : Shape) (entries : List SliceEntry) → valid_of m entries ≤ m.sets * m.ways
valid_of-le m entries = places_where-le m (λ o. is_some o) entries
