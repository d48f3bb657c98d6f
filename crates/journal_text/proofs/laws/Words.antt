-- Words: what stands before the first space of a text.
use Rattle.std.proofs.Common.{◌≡◌, ℕ, suc, ◌+◌, ◌^◌, ◌<◌, Bool, true, false, cond, not, ◌==◌, ◌||◌, List, [], ◌∷◌, ◌++◌, take, drop, decimal, refl, sym, ap, ◌∙◌, arith}
use Rattle.std.specs.List.{list_any, position_or_len}
use Rattle.std.proofs.lemmas.Bool.{eqb-true}
use Rattle.num_text.proofs.laws.Digits.{AllDigits-decimal, eqb-decimal, list_any-decimal}
use Rattle.journal_text.specs.Taken.{EndsWord, IsWord, is_space}

-- a text has one first word
pub split-unique : (xs ys more rest : List ℕ) → IsWord xs → IsWord ys → EndsWord more → EndsWord rest → xs ++ more ≡ ys ++ rest → (xs ≡ ys) × (more ≡ rest)
split-unique [] [] more rest x y m r e = (refl, e)
split-unique [] (b ∷ ys) [] rest x y m r e = absurd cc
split-unique [] (b ∷ ys) (c ∷ more) rest x y m r e = absurd (not_first b ys y (let same : c ≡ b = cc in sym same ∙ m))
  where
    not_first : (b : ℕ) (bs : List ℕ) → IsWord (b ∷ bs) → b ≡ 32 → ⊥
    not_first b bs w is = let first : list_any is_space (32 ∷ bs) ≡ false = ap (λ (k : ℕ). list_any is_space (k ∷ bs)) (sym is) ∙ w in absurd cc
split-unique (b ∷ xs) [] more [] x y m r e = absurd cc
split-unique (b ∷ xs) [] more (c ∷ rest) x y m r e = absurd (not_first b xs x (let same : b ≡ c = cc in same ∙ r))
  where
    not_first : (b : ℕ) (bs : List ℕ) → IsWord (b ∷ bs) → b ≡ 32 → ⊥
    not_first b bs w is = let first : list_any is_space (32 ∷ bs) ≡ false = ap (λ (k : ℕ). list_any is_space (k ∷ bs)) (sym is) ∙ w in absurd cc
split-unique (b ∷ xs) (c ∷ ys) more rest x y m r e =
    let first : b ≡ c = cc in
    let later : xs ++ more ≡ ys ++ rest = cc in
    let both = split-unique xs ys more rest (behind b xs x) (behind c ys y) m r later in
    (let same : xs ≡ ys = both.0 in cc, both.1)
  where
    behind : (b : ℕ) (bs : List ℕ) → IsWord (b ∷ bs) → IsWord bs
    behind b bs w = step (b == 32) w
      where
        step : (t : Bool) → (t || list_any is_space bs) ≡ false → list_any is_space bs ≡ false
        step true h = absurd cc
        step false h = h

-- a number is a word
pub IsWord-decimal : (n : ℕ) → n < 2 ^ 64 → IsWord (decimal n)
IsWord-decimal n small = list_any-decimal is_space (λ c digit. eqb-decimal c 32 (omega arith) digit) (decimal n) (AllDigits-decimal n small)

-- ---- where the first word of a text ends

-- the word has no space
pub IsWord-take_word : (text : List ℕ) → IsWord (take (position_or_len is_space text) text)
IsWord-take_word [] = refl
IsWord-take_word (b ∷ bs) = step (b == 32) refl (IsWord-take_word bs)
  where
    one : (n : ℕ) → 1 + n ≡ suc n
    one n = omega arith

    step : (t : Bool) → t ≡ (b == 32) → IsWord (take (position_or_len is_space bs) bs) → IsWord (take (cond (not t) (1 + position_or_len is_space bs) 0) (b ∷ bs))
    step true e h = refl
    step false e h = rw (one (position_or_len is_space bs)) (rw (← e) h)

-- and ends there
pub EndsWord-drop_word : (text : List ℕ) → EndsWord (drop (position_or_len is_space text) text)
EndsWord-drop_word [] = tt
EndsWord-drop_word (b ∷ bs) = step (b == 32) refl (EndsWord-drop_word bs)
  where
    one : (n : ℕ) → 1 + n ≡ suc n
    one n = omega arith

    step : (t : Bool) → (b == 32) ≡ t → EndsWord (drop (position_or_len is_space bs) bs) → EndsWord (drop (cond (not t) (1 + position_or_len is_space bs) 0) (b ∷ bs))
    step true e h = eqb-true b 32 e
    step false e h = rw (one (position_or_len is_space bs)) h
