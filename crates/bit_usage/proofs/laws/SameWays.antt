-- Uses with the same ways have the same letters and the same text.
use Rattle.std.proofs.Common.{◌≡◌, ℕ, zero, suc, ◌+◌, List, [], ◌∷◌, ◌++◌, map, decimal, codes, refl, ap, ap₂}
use Rattle.std.specs.List.{enumerate_from, join_with_byte}
use Rattle.cbm.specs.Masks.{has_way}
use Rattle.mode_rules.specs.declared.domain_use.DomainUse.{DomainUse}
use Rattle.bit_usage.specs.Letters.{letter_of}
use Rattle.bit_usage.specs.Usage.{domain_text, letters_of, usage_text}

-- two uses with the same ways
pub record SameWays (a b : DomainUse) : Type 0 where
  pub hardware : (way : ℕ) → has_way a.hardware way ≡ has_way b.hardware way
  pub shared : (way : ℕ) → has_way a.shared way ≡ has_way b.shared way
  pub exclusive : (way : ℕ) → has_way a.exclusive way ≡ has_way b.exclusive way
  pub region : (way : ℕ) → has_way a.region way ≡ has_way b.region way

-- each way has the same letter in both
letter_of-same : (a b : DomainUse) (way : ℕ) → SameWays a b → letter_of a way ≡ letter_of b way
unfolding letter_of
letter_of-same a b way same = rw (same.hardware way, same.shared way, same.exclusive way, same.region way) refl

-- so have the first n ways
pub letters_of-same : (a b : DomainUse) (n : ℕ) → SameWays a b → letters_of a n ≡ letters_of b n
letters_of-same a b zero same = refl
letters_of-same a b (suc n) same = ap₂ (λ (x : ℕ) (xs : List ℕ). x ∷ xs) (letter_of-same a b n same) (letters_of-same a b n same)

-- the letters of each of these uses
abbrev pub letters_in : ℕ → List DomainUse → List (List ℕ)
letters_in ways used = map (λ (u : DomainUse). letters_of u ways) used

-- a domain with these letters
abbrev with_letters : ℕ → List ℕ → List ℕ
with_letters id letters = decimal id ++ codes "=" ++ letters

-- domains with the same letters, from any first number on
pieces-same : (ways id : ℕ) (a b : List DomainUse) → letters_in ways a ≡ letters_in ways b → map (domain_text ways) (enumerate_from id a) ≡ map (domain_text ways) (enumerate_from id b)
pieces-same ways id [] [] same = refl
pieces-same ways id [] (v ∷ vs) same = absurd cc
pieces-same ways id (u ∷ us) [] same = absurd cc
pieces-same ways id (u ∷ us) (v ∷ vs) same =
    let first : letters_of u ways ≡ letters_of v ways = cc in
    let rest : letters_in ways us ≡ letters_in ways vs = cc in
    ap₂ (λ (x : List ℕ) (xs : List (List ℕ)). x ∷ xs) (ap (with_letters id) first) (pieces-same ways (id + 1) us vs rest)

-- have the same text
pub usage_text-same : (ways : ℕ) (a b : List DomainUse) → letters_in ways a ≡ letters_in ways b → usage_text ways a ≡ usage_text ways b
unfolding usage_text
usage_text-same ways a b same = ap (join_with_byte 59) (pieces-same ways 0 a b same)
