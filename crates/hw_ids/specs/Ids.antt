-- Sets of ids, each as a rising list.
use Rattle.std.specs.Prelude.{ℕ, ◌+◌, Bool, not, ◌≡◌, ◌==◌, ◌||◌, ◌&&◌, nat_lt, List, [], ◌∷◌, ◌++◌, filter, if◌then◌else◌}
use Rattle.std.specs.List.{list_any}

-- whether the id is among these
abbrev pub contains : ℕ → List ℕ → Bool
contains id ids = list_any (λ other. other == id) ids

-- the ids with this one besides, at its place in the rising order
abbrev pub with_id : ℕ → List ℕ → List ℕ
with_id id ids = filter (λ other. nat_lt other id) ids ++ id ∷ filter (λ other. nat_lt id other) ids

-- (For proofs.) the ids but this one
abbrev pub without : ℕ → List ℕ → List ℕ
without id ids = filter (λ other. not (other == id)) ids

-- (For proofs.) the places, counted from a first number, whose element passes the test
abbrev pub places : {X : Type 0} → (X → Bool) → ℕ → List X → List ℕ
places test first [] = []
places test first (x ∷ xs) = if test x then first ∷ places test (first + 1) xs else places test (first + 1) xs

-- (For proofs.) What `with_id` and `without` do to the members, whatever the list.
pub record ChangeMembers : Type 0 where
  pub with_one : (id other : ℕ) (ids : List ℕ) → contains other (with_id id ids) ≡ (other == id || contains other ids)
  pub without_one : (id other : ℕ) (ids : List ℕ) → contains other (without id ids) ≡ (not (other == id) && contains other ids)
