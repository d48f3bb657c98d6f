-- The passes of a phase, between those of the phases before and after it.
use Rattle.std.proofs.Common.{◌≡◌, ℕ, ◌+◌, ◌-◌, ◌<◌, inl, inr, List, ◌++◌, length, sym, ap, ◌∙◌, subst, arith}
use Rattle.std.proofs.lemmas.Bool.{cases_lt}
use Rattle.std.proofs.lemmas.List.{get_or_append_left, get_or-append-add, length-append}
use Rattle.live_run.specs.Names.{PassesValue}
use Rattle.live_run.specs.Phases.{no_passes, passes_at}
use Rattle.script_ops.specs.Values.{ScriptValue, first_thread, phase_at}

module _ (front own later : List PassesValue) where
  abbrev pub whole : List PassesValue
  whole = front ++ (own ++ later)

  pub length-whole : length whole ≡ length front + (length own + length later)
  length-whole = omega (arith, length-append front (own ++ later), length-append own later)

  pub at_front : (t : ℕ) → t < length front → passes_at whole t ≡ passes_at front t
  at_front t within = get_or_append_left front (own ++ later) no_passes t within

  pub at_own : (k : ℕ) → k < length own → passes_at whole (length front + k) ≡ passes_at own k
  at_own k within = get_or-append-add front (own ++ later) k no_passes ∙ get_or_append_left own later no_passes k within

  pub at_later : (l : ℕ) → passes_at whole (length front + (length own + l)) ≡ passes_at later l
  at_later l = get_or-append-add front (own ++ later) (length own + l) no_passes ∙ get_or-append-add own later l no_passes

  -- what holds of each part at its place
  pub by_part : (P : ℕ → PassesValue → Type 0) → ((t : ℕ) → t < length front → P t (passes_at front t)) → ((k : ℕ) → k < length own → P (length front + k) (passes_at own k))
      → ((l : ℕ) → l < length later → P (length front + (length own + l)) (passes_at later l)) → (t : ℕ) → t < length whole → P t (passes_at whole t)
  by_part P first second third t within = elim (cases_lt t (length front)) [
    | inl before ↦ subst (P t) (sym (at_front t before)) (first t before)
    | inr behind ↦ elim (cases_lt (t - length front) (length own)) [
      | inl mine ↦
          let k : ℕ = t - length front in
          let is : length front + k ≡ t = omega (arith, behind) in
          subst (λ t. P t (passes_at whole t)) is (subst (P (length front + k)) (sym (at_own k mine)) (second k mine))
      | inr after ↦
          let l : ℕ = t - length front - length own in
          let is : length front + (length own + l) ≡ t = omega (arith, behind, after) in
          let there : l < length later = omega (arith, within, behind, after, length-whole) in
          subst (λ t. P t (passes_at whole t)) is (subst (P (length front + (length own + l))) (sym (at_later l)) (third l there))
    ]
  ]

-- ---- a phase

-- The passes of the threads before a phase, of those in it, and of those after it.
pub record AreParts (script : ScriptValue) (phase : ℕ) (ps front own later : List PassesValue) : Type 0 where
  pub there : phase < length script.phases
  pub is : ps ≡ front ++ (own ++ later)
  pub front_count : length front ≡ first_thread script phase
  pub own_count : length own ≡ length (phase_at script phase).threads

-- by where the list was split
pub AreParts-split : (script own_script : ScriptValue) (phase first count : ℕ) (ps front rest own later : List PassesValue) → own_script ≡ script → phase < length script.phases → ps ≡ front ++ rest → rest ≡ own ++ later
    → length front ≡ first → first ≡ first_thread own_script phase → length own ≡ count → count ≡ length (phase_at own_script phase).threads → AreParts script phase ps front own later
AreParts-split script own_script phase first count ps front rest own later same there is_front is_own front_count first_is own_count count_is = record {
  there = there;
  is = is_front ∙ ap (λ xs. front ++ xs) is_own;
  front_count = front_count ∙ (first_is ∙ ap (λ (s : ScriptValue). first_thread s phase) same);
  own_count = own_count ∙ (count_is ∙ ap (λ (s : ScriptValue). length (phase_at s phase).threads) same);
}
