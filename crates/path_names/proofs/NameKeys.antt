-- Short names as numbers: different names are different numbers.
use Rattle.std.proofs.Common.{◌≡◌, ℕ, suc, ◌+◌, ◌-◌, ◌*◌, ◌^◌, ◌<◌, ◌≤◌, true, List, [], ◌∷◌, refl, ap, ◌∙◌, arith, get_or, Fits, w8}
use Rattle.std.specs.List.{fold, list_all}
use Rattle.std.proofs.Math.Nat.{pow-le-pow_right}
use Rattle.std.proofs.lemmas.Bool.{and_parts, lt-ltb, ltb-true}
use Rattle.std.proofs.lemmas.Bool.Decides.{nat_tests, same_from_decides}
use Rattle.std.proofs.lemmas.Slice.Eq.{bytes_eq-Decides}
use Rattle.std.specs.Ordering.{is_eq, nat_cmp}
use Rattle.std.specs.Str.{bytes_eq}
use Rattle.path_names.specs.NameKeys.{has_key, is_byte, key_of}
use Rattle.path_names.specs.declared.name_key.TheConstants.{MOST_KEY_BYTES}

-- a name is bytes
pub list_all-is_byte : (name : List ℕ) → ((i : ℕ) → Fits w8 (get_or name i 0)) → list_all is_byte name ≡ true
list_all-is_byte [] h = refl
list_all-is_byte (x ∷ xs) h =
    let small : Fits w8 x = h 0 in
    let first : is_byte x ≡ true = lt-ltb x 256 (omega arith) in
    rw (first, list_all-is_byte xs (λ i. h (suc i))) refl

-- a key of fewer bytes than a key may have leaves room for one more
pub below-next : (key i : ℕ) → key < 2 * 256 ^ i → i < MOST_KEY_BYTES → key * 256 + 255 < 2 ^ 128
below-next key i below few =
    let within : i ≤ MOST_KEY_BYTES - 1 = omega arith in
    omega (arith, below, pow-le-pow_right {n = 256} (omega arith) within)

-- the number that bytes make after another
abbrev after : ℕ → List ℕ → ℕ
after lead name = fold (λ (key byte : ℕ). key * 256 + byte) lead name

-- it is no less than that
le-after : (lead : ℕ) (name : List ℕ) → lead ≤ after lead name
le-after lead [] = omega arith
le-after lead (x ∷ xs) = omega (arith, le-after (lead * 256 + x) xs)

-- what two names have in common that make one number after these two
record Same (a b : ℕ) (xs ys : List ℕ) : Type 0 where
  lead : a ≡ b
  name : xs ≡ ys

-- two names that make one number after numbers of as many digits
Same-after : (a b : ℕ) (xs ys : List ℕ) → a < b * 256 → b < a * 256 → list_all is_byte xs ≡ true → list_all is_byte ys ≡ true → after a xs ≡ after b ys → Same a b xs ys
Same-after a b [] [] _ _ _ _ same = record { lead = same; name = refl }
Same-after a b [] (y ∷ ys) small _ _ _ same = absurd (omega (arith, small, same, le-after (b * 256 + y) ys))
Same-after a b (x ∷ xs) [] _ small _ _ same = absurd (omega (arith, small, same, le-after (a * 256 + x) xs))
Same-after a b (x ∷ xs) (y ∷ ys) small_a small_b bytes_x bytes_y same =
    let px = and_parts (is_byte x) (list_all is_byte xs) bytes_x in
    let py = and_parts (is_byte y) (list_all is_byte ys) bytes_y in
    let byte_x : x < 256 = ltb-true x 256 px.0 in
    let byte_y : y < 256 = ltb-true y 256 py.0 in
    let rest = Same-after (a * 256 + x) (b * 256 + y) xs ys (omega arith) (omega arith) px.1 py.1 same in
    let next : a * 256 + x ≡ b * 256 + y = rest.lead in
    let byte : x ≡ y = omega arith in
    record { lead = omega arith; name = ap (λ (n : ℕ). n ∷ xs) byte ∙ ap (λ (ns : List ℕ). y ∷ ns) rest.name }

-- numbers that compare as equal are equal
nat_cmp-same : (x y : ℕ) → is_eq (nat_cmp x y) ≡ true → x ≡ y
nat_cmp-same x y same = grind (arith, nat_tests)

-- and equal ones compare so
same-nat_cmp : (x y : ℕ) → x ≡ y → is_eq (nat_cmp x y) ≡ true
same-nat_cmp x y same = grind (arith, nat_tests)

-- names with the same key are the same
pub key_of-injective : (a b : List ℕ) → has_key a ≡ true → has_key b ≡ true → key_of a ≡ key_of b → a ≡ b
key_of-injective a b keyed_a keyed_b same = (Same-after 1 1 a b (omega arith) (omega arith) (and_parts _ _ keyed_a).1 (and_parts _ _ keyed_b).1 same).name

-- so keys are compared in place of bytes
pub is_eq-key_of : (a b : List ℕ) → has_key a ≡ true → has_key b ≡ true → is_eq (nat_cmp (key_of a) (key_of b)) ≡ bytes_eq a b
is_eq-key_of a b keyed_a keyed_b = same_from_decides (is_eq (nat_cmp (key_of a) (key_of b))) (bytes_eq a b)
    ((λ same. key_of-injective a b keyed_a keyed_b (nat_cmp-same (key_of a) (key_of b) same)), (λ same. same-nat_cmp (key_of a) (key_of b) (ap key_of same))) (bytes_eq-Decides a b)
