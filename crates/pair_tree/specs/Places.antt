-- The place of a group in the list of the groups.
-- (For functions and proofs: no promise of the program stands on it.)
use Rattle.std.specs.Prelude.{◌≡◌, ℕ, Bool, find, List, Option, Some, None, slice_get}

-- a function found the place of the first that passes a test
abbrev pub FindsPlace : {X : Type 0} → (X → Bool) → List X → Option ℕ → Type 0
FindsPlace p xs None = find p xs ≡ None
FindsPlace {X} p xs (Some place) = (x : X) × (slice_get xs place ≡ Some x) × (find p xs ≡ Some x)

-- what holds of the one that stands at a place
abbrev pub At : {X : Type 0} → List X → ℕ → (X → Type 0) → Type 0
At {X} xs place P = (x : X) → slice_get xs place ≡ Some x → P x
