-- The places of a slice by what each holds, and the entries that empty them all.
use Rattle.std.specs.Prelude.{◌≡◌, ℕ, ◌<◌, Bool, true, false, if◌then◌else◌, Option}
use Rattle.cache_core.specs.declared.entry.What.{What}
use Rattle.cache_core.specs.declared.entry.What.TheVariants.{Access, Raise, Flush, Lock, Look, Drop}
use Rattle.cache_core.specs.Fills.{Resident}
use Rattle.cache_core.specs.History.{Shape, IsOwn, is_own}
use Rattle.lists.specs.Sums.{one_if, sum_below}

-- (For proofs.) how many places of the slice's sets pass the test with what they hold
abbrev pub places_with : Shape → (Option Resident → Bool) → (ℕ → ℕ → Option Resident) → ℕ
places_with m p holds = sum_below m.sets (λ set. if is_own m set then sum_below m.ways (λ way. one_if (p (holds set way))) else 0)

-- (For proofs.) each place of the slice holds the same
abbrev pub AreAlike : Shape → (ℕ → ℕ → Option Resident) → (ℕ → ℕ → Option Resident) → Type 0
AreAlike m holds other = (set way : ℕ) → IsOwn m set → way < m.ways → holds set way ≡ other set way

-- whether this empties every place: a flush, and a lock before it loads its region
abbrev pub empties : What → Bool
empties (Access hit way owner rmid mask line) = false
empties Raise = false
empties Flush = true
empties (Lock mask first_line) = true
empties (Look rmid lines) = false
empties (Drop line at) = false
