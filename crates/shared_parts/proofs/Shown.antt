-- What the first word shows.
use Rattle.std.proofs.Common.{◌≡◌, inl, inr, ℕ, zero, suc, true, List, [], ◌∷◌, set, refl, sym, ◌∙◌, ap, subst}
use Rattle.std.proofs.lemmas.Bool.{cases_Bool}
use Rattle.shared_parts.specs.Parts.{Fits, IsQuiet, Shows, has, parts_after, state_after}
use Rattle.shared_parts.proofs.laws.Parts.{Fits-parts_after, has-cases, state_after-else, state_after-there}

-- where another word is written, the first is as it was
pub first_word_stays : (words others : List ℕ) (n i x : ℕ) → words ≡ n ∷ others → (i ≡ 0 → ⊥) → (rest : List ℕ) × (set words i x ≡ n ∷ rest)
first_word_stays words others n zero x is away = absurd (away refl)
first_word_stays words others n (suc i) x is away = (set others i x, ap (λ l. set l (suc i) x) is)

module _ {P : Type 0} (shown : P → ℕ) where
  -- part 0 of a state shows what it shows among these parts
  pub shown_at : (at : ℕ → P) (n : ℕ) (xs : List (ℕ × P)) → Fits at xs → Shows shown n xs → shown (at 0) ≡ n
  shown_at at n [] fit shows = absurd shows
  shown_at at n (x ∷ xs) fit shows = elim shows [
    | inl here ↦ ap (λ k. shown (at k)) (sym here.0) ∙ (ap shown fit.0 ∙ here.1)
    | inr later ↦ shown_at at n xs fit.1 later
  ]

module _ {E P : Type 0} (shown : P → ℕ) (after : E → ℕ → P → P) (e : E) where
  quiet_part : (at : ℕ → P) (xs : List (ℕ × P)) → Fits at xs → IsQuiet shown after e xs → has 0 xs ≡ true → shown (after e 0 (at 0)) ≡ shown (at 0)
  quiet_part at [] fit quiet there = absurd (let h = there in cc)
  quiet_part at (x ∷ xs) fit quiet there = elim (has-cases 0 x xs there) [
    | inl here ↦ subst (λ k. shown (after e k (at k)) ≡ shown (at k)) here (ap (λ p. shown (after e x.0 p)) fit.0 ∙ (quiet.0 here ∙ ap shown (sym fit.0)))
    | inr later ↦ quiet_part at xs fit.1 quiet.1 later
  ]

  -- an event that leaves what is shown
  pub quiet_stays : (at : ℕ → P) (xs : List (ℕ × P)) → Fits at xs → IsQuiet shown after e xs → shown (state_after after e xs at 0) ≡ shown (at 0)
  quiet_stays at xs fit quiet = elim (cases_Bool (has 0 xs)) [
    | inl h ↦ ap shown (state_after-there after e xs at 0 h) ∙ quiet_part at xs fit quiet h
    | inr h ↦ ap shown (state_after-else after e xs at 0 h)
  ]

  -- an event after which part 0 shows a number
  pub shown_after : (at : ℕ → P) (n : ℕ) (xs : List (ℕ × P)) → Fits at xs → Shows shown n (parts_after after e xs) → shown (state_after after e xs at 0) ≡ n
  shown_after at n xs fit shows = shown_at shown (state_after after e xs at) n (parts_after after e xs) (Fits-parts_after after e at xs xs (λ k h. h) fit) shows
