-- The words that are no flags.
use Rattle.std.proofs.Common.{◌≡◌, if◌then◌else◌, Bool, true, false, List, [], ◌∷◌, length, filter, find, String, Some, None, refl, ap, sym, ◌∙◌, arith}
use Rattle.std.proofs.lemmas.Grind.{common_steps}
use Rattle.std.specs.declared.alloc.Global.{Global}
use Rattle.top_parts.specs.Forms.{command_of}

-- none passes a test
pub filter-none : {X : Type 0} (p : X → Bool) (xs : List X) → find p xs ≡ None → filter p xs ≡ []
filter-none p [] none = refl
filter-none p (x ∷ xs) none = grind (arith, common_steps, filter-none p xs)

-- those that pass begin with the first
filter-some : {X : Type 0} (p : X → Bool) (xs : List X) (x : X) → find p xs ≡ Some x → (rest : List X) × (filter p xs ≡ x ∷ rest)
filter-some p [] x found = absurd cc
filter-some {X = X} p (y ∷ ys) x found =
    (elim (p y) as (λ b. (if b then Some y else find p ys) ≡ Some x → (rest : List X) × ((if b then y ∷ filter p ys else filter p ys) ≡ x ∷ rest)) [
      | true ↦ λ is. (filter p ys, let same : y ≡ x = cc in ap (λ z. z ∷ filter p ys) same)
      | false ↦ λ is. filter-some p ys x is
    ]) found

-- a list without elements
length-zero : {X : Type 0} (xs : List X) → length xs ≡ 0 → xs ≡ []
length-zero [] none = refl
length-zero (x ∷ xs) none = absurd (omega (arith, none))

-- just one passes
pub filter-one : {X : Type 0} (p : X → Bool) (xs : List X) (x : X) → find p xs ≡ Some x → length (filter p xs) ≡ 1 → filter p xs ≡ x ∷ []
filter-one p xs x found one =
    let some = filter-some p xs x found in
    let more : length (x ∷ some.0) ≡ 1 = sym (ap length some.1) ∙ one in
    some.1 ∙ ap (λ rest. x ∷ rest) (length-zero some.0 (omega (arith, more)))

-- no command has two words besides its own
command_of-cons : (first x : String Global) (rest : List (String Global)) → (length (x ∷ rest) ≡ 1 → ⊥) → command_of first (x ∷ rest) ≡ None
command_of-cons first x [] two = absurd (two refl)
command_of-cons first x (y ∷ rest) two = refl

-- nor have those that pass a test where they are not one
pub command_of-filter : (first : String Global) (p : String Global → Bool) (xs : List (String Global)) (x : String Global) → find p xs ≡ Some x → (length (filter p xs) ≡ 1 → ⊥) → command_of first (filter p xs) ≡ None
command_of-filter first p xs x found two =
    let some = filter-some p xs x found in
    ap (command_of first) some.1 ∙ command_of-cons first x some.0 (λ one. two (ap length some.1 ∙ one))
