-- Spans that lie in one run and apart from each other have together no more ways than the run.
use Rattle.std.proofs.Common.{◌≡◌, ℕ, zero, suc, ◌+◌, ◌-◌, ◌<◌, ◌≤◌, ◌⊎◌, inl, inr, Bool, true, false, cond, List, [], ◌∷◌, refl, ap, ◌∙◌, arith}
use Rattle.std.specs.Prelude.{All, AllPairs}
use Rattle.std.proofs.Math.Dec.{leb}
use Rattle.std.proofs.lemmas.Bool.Decides.{leb_tells}
use Rattle.std.proofs.lemmas.List.Elements.{All-head, All-tail}
use Rattle.lists.specs.Sums.{sum_below}
use Rattle.lists.proofs.Sums.{sum_below-add, sum_below-suc}
use Rattle.way_plans.specs.AnyOrder.{AreApart}
use Rattle.way_plans.specs.declared.span.Span.{Span}
use Rattle.way_plans.specs.Divisions.{end}
use Rattle.way_plans.proofs.RunLists.{IsIn}

-- ---- how many of some spans have a way

-- 1 where a span has a way, and else 0
abbrev has : Span → ℕ → ℕ
has span way = cond (leb span.first way) (cond (leb (way + 1) (end span)) 1 0) 0

has-inside : (way : ℕ) (span : Span) → span.first ≤ way → way < end span → has span way ≡ 1
has-inside way span above below = by (leb_tells span.first way) (leb_tells (way + 1) (end span))
  where
    by : ((leb span.first way ≡ true) × (span.first ≤ way)) ⊎ ((leb span.first way ≡ false) × (way < span.first))
        → ((leb (way + 1) (end span) ≡ true) × (way + 1 ≤ end span)) ⊎ ((leb (way + 1) (end span) ≡ false) × (end span < way + 1)) → has span way ≡ 1
    by (inl a) (inl b) = rw (a.0, b.0) refl
    by (inl a) (inr b) = absurd (omega (arith, below, b.1))
    by (inr a) b = absurd (omega (arith, above, a.1))

has-below : (way : ℕ) (span : Span) → way < span.first → has span way ≡ 0
has-below way span below = by (leb_tells span.first way)
  where
    by : ((leb span.first way ≡ true) × (span.first ≤ way)) ⊎ ((leb span.first way ≡ false) × (way < span.first)) → has span way ≡ 0
    by (inl a) = absurd (omega (arith, below, a.1))
    by (inr a) = rw a.0 refl

has-behind : (way : ℕ) (span : Span) → end span ≤ way → has span way ≡ 0
has-behind way span behind = by (leb_tells span.first way) (leb_tells (way + 1) (end span))
  where
    by : ((leb span.first way ≡ true) × (span.first ≤ way)) ⊎ ((leb span.first way ≡ false) × (way < span.first))
        → ((leb (way + 1) (end span) ≡ true) × (way + 1 ≤ end span)) ⊎ ((leb (way + 1) (end span) ≡ false) × (end span < way + 1)) → has span way ≡ 0
    by (inl a) (inl b) = absurd (omega (arith, behind, b.1))
    by (inl a) (inr b) = rw (a.0, b.0) refl
    by (inr a) b = rw a.0 refl

-- a way is in the span or not
abbrev Has : ℕ → Span → Type 0
Has way span = ((span.first ≤ way) × (way < end span)) ⊎ (has span way ≡ 0)

has-cases : (way : ℕ) (span : Span) → Has way span
has-cases way span = by (leb_tells span.first way) (leb_tells (way + 1) (end span))
  where
    by : ((leb span.first way ≡ true) × (span.first ≤ way)) ⊎ ((leb span.first way ≡ false) × (way < span.first))
        → ((leb (way + 1) (end span) ≡ true) × (way + 1 ≤ end span)) ⊎ ((leb (way + 1) (end span) ≡ false) × (end span < way + 1)) → Has way span
    by (inl a) (inl b) = inl (a.1, omega (arith, b.1))
    by (inl a) (inr b) = inr (has-behind way span (omega (arith, b.1)))
    by (inr a) b = inr (has-below way span a.1)

-- no way below a span
before-has : (span : Span) (n : ℕ) → n ≤ span.first → sum_below n (has span) ≡ 0
before-has span zero below = refl
before-has span (suc n) below =
    let rest : sum_below n (has span) ≡ 0 = before-has span n (omega (arith, below)) in
    let here : has span n ≡ 0 = has-below n span (omega (arith, below)) in
    omega (arith, rest, here)

-- so many of its ways
part-has : (span : Span) (k : ℕ) → k ≤ span.count → sum_below (span.first + k) (has span) ≡ k
part-has span zero within = let none : span.first + 0 ≡ span.first = omega arith in ap (λ (n : ℕ). sum_below n (has span)) none ∙ before-has span span.first (omega arith)
part-has span (suc k) within =
    let rest : sum_below (span.first + k) (has span) ≡ k = part-has span k (omega (arith, within)) in
    let here : has span (span.first + k) ≡ 1 = has-inside (span.first + k) span (omega arith) (omega (arith, within)) in
    let total : sum_below (span.first + k + 1) (has span) ≡ sum_below (span.first + k) (has span) + has span (span.first + k) = sum_below-suc (span.first + k) (has span) in
    let next : span.first + suc k ≡ span.first + k + 1 = omega arith in
    ap (λ (n : ℕ). sum_below n (has span)) next ∙ omega (arith, total, rest, here)

-- all of them, and none behind
behind-has : (span : Span) (k : ℕ) → sum_below (end span + k) (has span) ≡ span.count
behind-has span zero = let none : end span + 0 ≡ span.first + span.count = omega arith in ap (λ (n : ℕ). sum_below n (has span)) none ∙ part-has span span.count (omega arith)
behind-has span (suc k) =
    let rest : sum_below (end span + k) (has span) ≡ span.count = behind-has span k in
    let here : has span (end span + k) ≡ 0 = has-behind (end span + k) span (omega arith) in
    let total : sum_below (end span + k + 1) (has span) ≡ sum_below (end span + k) (has span) + has span (end span + k) = sum_below-suc (end span + k) (has span) in
    let next : end span + suc k ≡ end span + k + 1 = omega arith in
    ap (λ (n : ℕ). sum_below n (has span)) next ∙ omega (arith, total, rest, here)

-- a span has its ways
sum-has : (n : ℕ) (span : Span) → end span ≤ n → sum_below n (has span) ≡ span.count
sum-has n span le = let is : n ≡ end span + (n - end span) = omega (arith, le) in ap (λ (m : ℕ). sum_below m (has span)) is ∙ behind-has span (n - end span)

none-below : (n : ℕ) → sum_below n (λ (way : ℕ). 0) ≡ 0
none-below zero = refl
none-below (suc n) = let rest : sum_below n (λ (way : ℕ). 0) ≡ 0 = none-below n in omega (arith, rest)

-- sums of what is no more
sum-le : (n : ℕ) (f g : ℕ → ℕ) → ((k : ℕ) → f k ≤ g k) → sum_below n f ≤ sum_below n g
sum-le zero f g le = omega arith
sum-le (suc n) f g le = let rest : sum_below n f ≤ sum_below n g = sum-le n f g le in let here : f n ≤ g n = le n in omega (arith, rest, here)

-- ---- the spans that are chosen

module _ (is_chosen : Span → Bool) where
  -- how many ways those have together
  abbrev pub ways_of : List Span → ℕ
  ways_of [] = 0
  ways_of (span ∷ spans) = cond (is_chosen span) span.count 0 + ways_of spans

  -- how many of them have a way
  abbrev having : List Span → ℕ → ℕ
  having [] way = 0
  having (span ∷ spans) way = cond (is_chosen span) (has span way) 0 + having spans way

  -- a way of one of them is in no other
  having-none : (way : ℕ) (span : Span) (spans : List Span) → span.first ≤ way → way < end span → All (AreApart span) spans → having spans way ≡ 0
  having-none way span [] above below apart = refl
  having-none way span (other ∷ spans) above below apart =
      let rest : having spans way ≡ 0 = having-none way span spans above below (All-tail (AreApart span) other spans apart) in
      let here : has other way ≡ 0 = lies (All-head (AreApart span) other spans apart) in
      by (is_chosen other) here rest
    where
      lies : AreApart span other → has other way ≡ 0
      lies (inl before) = has-below way other (omega (arith, before, below))
      lies (inr behind) = has-behind way other (omega (arith, behind, above))

      by : (b : Bool) → has other way ≡ 0 → having spans way ≡ 0 → cond b (has other way) 0 + having spans way ≡ 0
      by true here rest = omega (arith, here, rest)
      by false here rest = omega (arith, rest)

  sum-having : (n : ℕ) (spans : List Span) → All (λ span. end span ≤ n) spans → sum_below n (λ (way : ℕ). having spans way) ≡ ways_of spans
  sum-having n [] all = none-below n
  sum-having n (span ∷ spans) all =
      sum_below-add n (λ (way : ℕ). cond (is_chosen span) (has span way) 0) (λ (way : ℕ). having spans way)
      ∙ (ap (λ (m : ℕ). m + sum_below n (λ (way : ℕ). having spans way)) (by (is_chosen span)) ∙ ap (λ (m : ℕ). cond (is_chosen span) span.count 0 + m) (sum-having n spans (All-tail (λ s. end s ≤ n) span spans all)))
    where
      by : (b : Bool) → sum_below n (λ (way : ℕ). cond b (has span way) 0) ≡ cond b span.count 0
      by true = sum-has n span (All-head (λ s. end s ≤ n) span spans all)
      by false = none-below n

  module _ (run : Span) where
    having-le : (way : ℕ) (spans : List Span) → All (λ span. is_chosen span ≡ true → IsIn run span) spans → AllPairs AreApart spans → having spans way ≤ has run way
    having-le way [] inside apart = omega arith
    having-le way (span ∷ spans) inside apart =
        by (is_chosen span) refl (has-cases way span)
        (having-le way spans (All-tail (λ s. is_chosen s ≡ true → IsIn run s) span spans inside) (λ i j d lt within. apart (suc i) (suc j) d (omega (arith, lt)) (omega (arith, within))))
      where
        by : (b : Bool) → is_chosen span ≡ b → Has way span → having spans way ≤ has run way → cond b (has span way) 0 + having spans way ≤ has run way
        by false is cases rest = omega (arith, rest)
        by true is (inr none) rest = omega (arith, none, rest)
        by true is (inl within) rest =
            let lies : IsIn run span = All-head (λ s. is_chosen s ≡ true → IsIn run s) span spans inside is in
            let none : having spans way ≡ 0 = having-none way span spans within.0 within.1 (λ k d below. apart zero (suc k) d (omega arith) (omega (arith, below))) in
            let one : has span way ≡ 1 = has-inside way span within.0 within.1 in
            let own : has run way ≡ 1 = has-inside way run (omega (arith, lies.begins, within.0)) (omega (arith, lies.ends, within.1)) in
            omega (arith, none, one, own)

    -- they have together no more ways than the run
    pub ways_of-le : (n : ℕ) (spans : List Span) → end run ≤ n → All (λ span. end span ≤ n) spans → All (λ span. is_chosen span ≡ true → IsIn run span) spans → AllPairs AreApart spans → ways_of spans ≤ run.count
    ways_of-le n spans le all inside apart =
        let most : sum_below n (λ (way : ℕ). having spans way) ≤ sum_below n (has run) = sum-le n (λ (way : ℕ). having spans way) (has run) (λ way. having-le way spans inside apart) in
        omega (arith, most, sum-having n spans all, sum-has n run le)
