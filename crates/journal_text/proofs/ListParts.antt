-- Lists that are the same have the same parts.
use Rattle.std.proofs.Common.{◌≡◌, List, [], ◌∷◌, ◌++◌, length, refl, arith}

-- two lists with a head and a rest
pub cons-same : {A : Type 0} (x y : A) (xs ys : List A) → x ∷ xs ≡ y ∷ ys → (x ≡ y) × (xs ≡ ys)
cons-same x y xs ys same = (cc, cc)

-- lists of the same length, with more after them
pub append-same : {A : Type 0} (xs ys us vs : List A) → length xs ≡ length ys → xs ++ us ≡ ys ++ vs → (xs ≡ ys) × (us ≡ vs)
append-same [] [] us vs long same = (refl, same)
append-same [] (y ∷ ys) us vs long same = absurd (omega (arith, long))
append-same (x ∷ xs) [] us vs long same = absurd (omega (arith, long))
append-same (x ∷ xs) (y ∷ ys) us vs long same =
    let both = cons-same x y (xs ++ us) (ys ++ vs) same in
    let rest = append-same xs ys us vs (omega (arith, long)) both.1 in
    (let first = both.0 in let others = rest.0 in cc, rest.1)
