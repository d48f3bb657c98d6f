-- Beginnings of lists.
-- (For functions and proofs: no promise of the program stands on it.)
use Rattle.std.specs.Prelude.{◌≡◌, nat_lt, if◌then◌else◌, List, [], ◌∷◌, ◌++◌, length}

-- the first list begins the second
abbrev pub IsPrefix : {A : Type 0} → List A → List A → Type 0
IsPrefix {A} xs ys = (rest : List A) × (xs ++ rest ≡ ys)

-- each of these lists begins the list
abbrev pub ArePrefixes : {A : Type 0} → List (List A) → List A → Type 0
ArePrefixes [] ys = Unit {0}
ArePrefixes (xs ∷ xss) ys = IsPrefix xs ys × ArePrefixes xss ys

-- the longer of two lists, and the first where they are as long
abbrev pub longer_of : {A : Type 0} → List A → List A → List A
longer_of xs ys = if nat_lt (length xs) (length ys) then ys else xs
