-- Ranges of numbers, one number more.
use Rattle.std.proofs.Common.{◌≡◌, ℕ, zero, suc, ◌+◌, ◌++◌, List, [], ◌∷◌, sym, ap, ◌∙◌, arith}
use Rattle.std.specs.List.{flat_map, range_with_len}
use Rattle.std.proofs.lemmas.Grind.{flat_map-append}
use Rattle.std.proofs.lemmas.List.{append_assoc, append-nil}

-- one more number
pub range_with_len-suc : (a n : ℕ) → range_with_len a (n + 1) ≡ range_with_len a n ++ (a + n) ∷ []
range_with_len-suc a zero = let e : a ≡ a + 0 = omega arith in ap (λ (k : ℕ). k ∷ []) e
range_with_len-suc a (suc n) =
    let next : suc n + 1 ≡ suc (n + 1) = omega arith in
    let there : (a + 1) + n ≡ a + suc n = omega arith in
    ap (range_with_len a) next ∙ ap (λ (ks : List ℕ). a ∷ ks) (range_with_len-suc (a + 1) n ∙ ap (λ (k : ℕ). range_with_len (a + 1) n ++ k ∷ []) there)

-- the texts of one more item stand after those of the others
pub flat_map-push : {X : Type 0} (f : X → List ℕ) (xs : List X) (x : X) (old now new : List ℕ) → now ≡ old ++ flat_map f xs → new ≡ now ++ f x → new ≡ old ++ flat_map f (xs ++ x ∷ [])
flat_map-push f xs x old now new before more =
    let all : flat_map f (xs ++ x ∷ []) ≡ flat_map f xs ++ f x = flat_map-append f xs (x ∷ []) ∙ ap (λ (t : List ℕ). flat_map f xs ++ t) (append-nil (f x)) in
    more ∙ (ap (λ (t : List ℕ). t ++ f x) before ∙ (append_assoc old (flat_map f xs) (f x) ∙ ap (λ (t : List ℕ). old ++ t) (sym all)))

-- the same for the numbers below one
pub flat_map-range_suc : (f : ℕ → List ℕ) (n : ℕ) (old now new : List ℕ) → now ≡ old ++ flat_map f (range_with_len 0 n) → new ≡ now ++ f n → new ≡ old ++ flat_map f (range_with_len 0 (n + 1))
flat_map-range_suc f n old now new before more =
    let here : 0 + n ≡ n = omega arith in
    let all : range_with_len 0 (n + 1) ≡ range_with_len 0 n ++ n ∷ [] = range_with_len-suc 0 n ∙ ap (λ (k : ℕ). range_with_len 0 n ++ k ∷ []) here in
    flat_map-push f (range_with_len 0 n) n old now new before more ∙ ap (λ (ks : List ℕ). old ++ flat_map f ks) (sym all)
