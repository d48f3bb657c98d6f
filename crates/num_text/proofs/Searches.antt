-- The first place of a byte, as a search tells it.
use Rattle.std.proofs.Common.{◌≡◌, ℕ, ◌==◌, List, length, Option, Some, None, refl, arith}
use Rattle.std.specs.List.{position}
use Rattle.std.proofs.lemmas.Bool.{false_from_ne_true, lt-ltb, le-ltb}
use Rattle.std.proofs.lemmas.List.Sums.{position_or_len_is}
use Rattle.memchr.specs.Find.{IsFirstByte, is_byte}

-- what a search for a byte answers
pub IsFirstByte-position : (byte : ℕ) (text : List ℕ) (place : Option ℕ) → IsFirstByte (is_byte byte) text place → place ≡ position (λ b. b == byte) text
IsFirstByte-position byte text None nowhere =
    let far = position_or_len_is (λ b. b == byte) text (length text) 0 (omega arith) (λ k lt. false_from_ne_true _ (nowhere k (omega arith) lt)) (λ lt. absurd (omega arith)) in
    rw (far, le-ltb (length text) (length text) (omega arith)) refl
IsFirstByte-position byte text (Some k) first =
    let at = position_or_len_is (λ b. b == byte) text k 0 (omega (arith, first.0.high)) (λ j lt. false_from_ne_true _ (first.0.before j (omega arith) lt)) (λ lt. first.1) in
    rw (at, lt-ltb k (length text) first.0.high) refl
