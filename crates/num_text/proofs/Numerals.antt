-- Digits, one more at a time.
use Rattle.std.proofs.Common.{◌≡◌, ℕ, zero, suc, ◌+◌, ◌*◌, ◌-◌, ◌^◌, ◌<◌, ◌≤◌, true, false, cond, eqb, not, ◌&&◌, is_some, inl, inr, List, [], ◌∷◌, length, take, Option, Some, None, refl, ap, ◌∙◌, arith, get_or, length-take}
use Rattle.std.specs.List.{list_all}
use Rattle.std.specs.Char.{is_digit, digit_value}
use Rattle.std.specs.Str.Parse.{digits_value, digits_value_after, AllDigits}
use Rattle.std.proofs.lemmas.Bool.{le-ltb, lt-ltb, cases_lt, ne_eqb}
use Rattle.std.proofs.Math.Nat.{pow-le-pow_left, pow-le-pow_right}
use Rattle.std.proofs.lemmas.Int.Digits.{digits_more, digits_value-lt, digits_value_more}
use Rattle.num_text.specs.Numbers.{number_of, below, capped}

-- digits make a number greater
digits_value_after-ge : (base n : ℕ) (cs : List ℕ) → 0 < base → n ≤ digits_value_after base n cs
digits_value_after-ge base n [] h = omega arith
digits_value_after-ge base n (c ∷ cs) h = omega (arith, digits_value_after-ge base (n * base + digit_value c) cs h, mul-ge n base h)
  where
    mul-ge : (a b : ℕ) → 0 < b → a ≤ a * b
    mul-ge a b h = grind arith

-- the first of the digits make no greater number than all
digits_value_after-take : (base n k : ℕ) (cs : List ℕ) → 0 < base → digits_value_after base n (take k cs) ≤ digits_value_after base n cs
digits_value_after-take base n zero cs h = digits_value_after-ge base n cs h
digits_value_after-take base n (suc k) [] h = omega arith
digits_value_after-take base n (suc k) (c ∷ cs) h = digits_value_after-take base (n * base + digit_value c) k cs h

-- each of some digits is a digit
list_all-digits : (base : ℕ) (cs : List ℕ) → AllDigits base cs → list_all (λ b. is_digit b base) cs ≡ true
list_all-digits base [] h = refl
list_all-digits base (c ∷ cs) h = rw (lt-ltb (digit_value c) base h.0) (list_all-digits base cs h.1)

-- where a beginning is too great, nothing is read
pub below-too_great : (base limit k : ℕ) (cs : List ℕ) → 0 < base → limit ≤ digits_value base (take k cs) → None ≡ below limit (number_of base cs)
below-too_great base limit k [] h g = refl
below-too_great base limit k (c ∷ cs) h g =
    elim (list_all (λ b. is_digit b base) (c ∷ cs)) as (λ t. None ≡ below limit (cond t (Some (digits_value base (c ∷ cs))) None)) [
      | true ↦ rw (le-ltb (digits_value base (c ∷ cs)) limit (omega (arith, digits_value_after-take base 0 k (c ∷ cs) h))) refl
      | false ↦ refl
    ]

-- digits alone are read
pub below-digits : (base limit : ℕ) (cs : List ℕ) → 0 < length cs → AllDigits base cs → digits_value base cs < limit → Some (digits_value base cs) ≡ below limit (number_of base cs)
below-digits base limit [] h d lt = absurd (omega arith)
below-digits base limit (c ∷ cs) h d lt = rw (list_all-digits base (c ∷ cs) d, lt-ltb (digits_value base (c ∷ cs)) limit lt) refl

-- a digit more is still below 2^64, where there are few
pub few_digits-lt : (base k : ℕ) (cs : List ℕ) → base ≤ 16 → length cs ≤ 16 → k < length cs → AllDigits base (take k cs) → digit_value (get_or cs k 0) < base → digits_value base (take k cs) * base + digit_value (get_or cs k 0) < 2 ^ 64
few_digits-lt base k cs high few within digits digit =
    let most : length (take (k + 1) cs) ≤ 16 = omega (arith, length-take (k + 1) cs) in
    rw (← digits_value_more base cs k within) (omega (arith, digits_value-lt base (take (k + 1) cs) (digits_more base cs k within digits digit), pow-le-pow_left high (length (take (k + 1) cs)), pow-le-pow_right {n = 16} (omega arith) most))

-- a text is a number where it is some digits and nothing else
pub is_some-number_of : (base : ℕ) (cs : List ℕ) → is_some (number_of base cs) ≡ (not (eqb (length cs) 0) && list_all (λ b. is_digit b base) cs)
is_some-number_of base [] = refl
is_some-number_of base (c ∷ cs) = rw (ne_eqb (length (c ∷ cs)) 0 (omega arith)) (elim (list_all (λ b. is_digit b base) (c ∷ cs)) as (λ t. is_some (cond t (Some (digits_value base (c ∷ cs))) None) ≡ t) [ true ↦ refl | false ↦ refl ])

-- nothing read is nothing capped
pub capped-none : (o : Option ℕ) → is_some o ≡ false → None ≡ capped o
capped-none None h = refl
capped-none (Some n) h = absurd cc

-- a number below 2^64 is not changed by the cap
pub capped-small : (o : Option ℕ) (n : ℕ) → Some n ≡ below (2 ^ 64) o → Some n ≡ capped o
capped-small None n h = h
capped-small (Some m) n h =
    elim (cases_lt m (2 ^ 64)) [
      | inl lt ↦ (let e : Some n ≡ Some m = h ∙ rw (lt-ltb m (2 ^ 64) lt) refl in
          let same : n ≡ m = cc in
          rw same (ap Some (omega arith)))
      | inr le ↦ (let e : Some n ≡ None = h ∙ rw (le-ltb m (2 ^ 64) le) refl in absurd cc)
    ]

-- another number becomes the greatest below 2^64
pub capped-great : (o : Option ℕ) → is_some o ≡ true → None ≡ below (2 ^ 64) o → Some (2 ^ 64 - 1) ≡ capped o
capped-great None h e = absurd cc
capped-great (Some m) h e =
    elim (cases_lt m (2 ^ 64)) [
      | inl lt ↦ (let some : below (2 ^ 64) (Some m) ≡ Some m = rw (lt-ltb m (2 ^ 64) lt) refl in absurd cc)
      | inr le ↦ ap Some (omega arith)
    ]

-- when a text is a number
pub ruleset some_number = (is_some-number_of)

-- what the cap makes of a number
pub ruleset cappings = (capped-none, capped-small, capped-great)
