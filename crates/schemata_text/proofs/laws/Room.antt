-- There are no more lawful assignments than domains.
use Rattle.std.proofs.Common.{◌≡◌, ℕ, zero, suc, ◌+◌, ◌<◌, ◌≤◌, true, false, Ok, inl, inr, List, [], ◌∷◌, ◌++◌, length, refl, ap, arith, length-append}
use Rattle.std.specs.Prelude.{nat_eq}
use Rattle.std.specs.List.{list_any, range_with_len, IsDistinct, AllByRecursion}
use Rattle.std.proofs.lemmas.Bool.{eq-eqb, eqb-true, or_cases, or_right, cases_lt}
use Rattle.std.proofs.lemmas.Cmp.{nat_eq_equiv}
use Rattle.std.proofs.lemmas.Map.Made.{length-le_from_is_member}
use Rattle.std.proofs.lemmas.List.FromFn.{length-range_with_len}
use Rattle.cbm.specs.declared.geometry.Geometry.{Geometry}
use Rattle.cbm.specs.Validity.{checked}
use Rattle.schemata_text.specs.declared.assignment.Assignment.{Assignment}
use Rattle.schemata_text.specs.Reading.{AreLawful, domains_of, is_of}
use Rattle.schemata_text.proofs.laws.Lawful.{AreLawful-push}

-- a number of a range is among its numbers
list_any-range_with_len : (q a n : ℕ) → a ≤ q → q < a + n → list_any (nat_eq q) (range_with_len a n) ≡ true
list_any-range_with_len q a zero low high = absurd (omega arith)
list_any-range_with_len q a (suc n) low high =
    elim (cases_lt a q) [
      | inl lt ↦ rw (list_any-range_with_len q (a + 1) n (omega arith) (omega arith)) (or_right (nat_eq q a) true refl)
      | inr le ↦ (let here : q ≡ a = omega arith in rw (eq-eqb q a here) refl)
    ]

-- one of some numbers below a limit is below it
list_any-below : (n q : ℕ) (xs : List ℕ) → AllByRecursion (λ d. d < n) xs → list_any (nat_eq q) xs ≡ true → q < n
list_any-below n q [] all h = absurd cc
list_any-below n q (x ∷ xs) all h =
    elim (or_cases (nat_eq q x) (list_any (nat_eq q) xs) h) [
      | inl e ↦ omega (arith, eqb-true q x e, all.0)
      | inr e ↦ list_any-below n q xs all.1 e
    ]

-- there are no more different numbers than are below their limit
length-distinct : (n : ℕ) (xs : List ℕ) → AllByRecursion (λ d. d < n) xs → IsDistinct nat_eq xs → length xs ≤ n
length-distinct n xs all apart =
    let le = length-le_from_is_member nat_eq_equiv xs (range_with_len 0 n) apart (λ q h. list_any-range_with_len q 0 n (omega arith) (omega (arith, list_any-below n q xs all h))) in
    omega (arith, length-range_with_len 0 n, le)

-- a domain that is not named yet leaves room
pub length-lawful : (g : Geometry) (n : ℕ) (xs : List Assignment) (a : Assignment) → AreLawful g n xs → a.domain < n → list_any (is_of a.domain) xs ≡ false → checked g a.mask ≡ Ok a.mask → length xs < n
length-lawful g n xs a lawful lt fresh valid =
    let more = AreLawful-push g n xs a lawful lt fresh valid in
    omega (arith, length-distinct n (domains_of (xs ++ a ∷ [])) more.exist more.apart, len (xs ++ a ∷ []), length-append xs (a ∷ []))
  where
    len : (ys : List Assignment) → length (domains_of ys) ≡ length ys
    len [] = refl
    len (y ∷ ys) = ap suc (len ys)
