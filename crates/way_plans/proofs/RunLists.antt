-- Runs of free ways: they are free, lie apart, and each span lies in one of them.
use Rattle.std.proofs.Common.{◌≡◌, ◌≢◌, ℕ, zero, suc, ◌+◌, ◌-◌, ◌<◌, ◌≤◌, ◌⊎◌, inl, inr, Bool, true, false, cond, List, [], ◌∷◌, get_or, refl, subst, arith}
use Rattle.std.specs.Prelude.{All}
use Rattle.std.proofs.lemmas.Bool.Decides.{eqb_tells, leb_tells}
use Rattle.std.proofs.Math.Dec.{eqb, leb}
use Rattle.std.proofs.lemmas.List.Elements.{All-cons, All-nil}
use Rattle.way_plans.specs.declared.span.Span.{Span}
use Rattle.way_plans.specs.Divisions.{AreFree, end}
use Rattle.way_plans.specs.Runs.{runs_below, with_way}

-- a span lies in a run
pub record IsIn (run span : Span) : Type 0 where
  pub begins : run.first ≤ span.first
  pub ends : end span ≤ end run

-- or in one of several
abbrev pub IsInSome : Span → List Span → Type 0
IsInSome span [] = ⊥
IsInSome span (run ∷ runs) = (IsIn run span) ⊎ (IsInSome span runs)

-- a span without its last way
abbrev pub shorter : Span → Span
shorter span = record { first = span.first; count = span.count - 1 }

-- Runs of free ways, the highest first, all below a way, and with a way between each two.
pub record IsRun (free : List Bool) (bound : ℕ) (run : Span) : Type 0 where
  pub below : end run < bound
  pub any : 1 ≤ run.count
  pub free_ways : AreFree free run.first run.count

abbrev pub AreRuns : List Bool → ℕ → List Span → Type 0
AreRuns free bound [] = Unit {0}
AreRuns free bound (run ∷ runs) = (IsRun free bound run) × (AreRuns free run.first runs)

module _ (free : List Bool) where
  AreRuns-wider : (bound wider : ℕ) (runs : List Span) → bound ≤ wider → AreRuns free bound runs → AreRuns free wider runs
  AreRuns-wider bound wider [] le are = tt
  AreRuns-wider bound wider (run ∷ runs) le are = (record { below = omega (arith, le, are.0.below); any = are.0.any; free_ways = are.0.free_ways }, are.1)

  -- a way more
  one-free : (way : ℕ) → get_or free way false ≡ true → AreFree free way 1
  one-free way is k above below = let same : k ≡ way = omega (arith, above, below) in rw same is

  more-free : (first count way : ℕ) → first + count ≡ way → get_or free way false ≡ true → AreFree free first count → AreFree free first (count + 1)
  more-free first count way ends is free_ways k above below = by (eqb_tells k way)
    where
      by : ((eqb k way ≡ true) × (k ≡ way)) ⊎ ((eqb k way ≡ false) × (k ≢ way)) → get_or free k false ≡ true
      by (inl same) = rw same.1 is
      by (inr other) = free_ways k above (omega (arith, below, other.1, ends))

  AreRuns-with_way : (way : ℕ) (runs : List Span) → get_or free way false ≡ true → AreRuns free (way + 1) runs → AreRuns free (way + 2) (with_way way runs)
  AreRuns-with_way way [] is are = (record { below = omega arith; any = omega arith; free_ways = one-free way is }, tt)
  AreRuns-with_way way (run ∷ runs) is are = by (eqb_tells (end run) way)
    where
      by : ((eqb (end run) way ≡ true) × (end run ≡ way)) ⊎ ((eqb (end run) way ≡ false) × (end run ≢ way)) → AreRuns free (way + 2) (with_way way (run ∷ runs))
      by (inl same) = rw same.0 (record { below = omega (arith, same.1); any = omega arith; free_ways = more-free run.first run.count way same.1 is are.0.free_ways }, are.1)
      by (inr other) = rw other.0 (
        record { below = omega arith; any = omega arith; free_ways = one-free way is },
        (record { below = omega (arith, are.0.below, other.1); any = are.0.any; free_ways = are.0.free_ways }, are.1),
      )

  pub AreRuns-below : (n : ℕ) → AreRuns free (n + 1) (runs_below free n)
  AreRuns-below zero = tt
  AreRuns-below (suc n) = by (get_or free n false) refl (AreRuns-below n)
    where
      by : (b : Bool) → get_or free n false ≡ b → AreRuns free (n + 1) (runs_below free n) → AreRuns free (suc n + 1) (cond b (with_way n (runs_below free n)) (runs_below free n))
      by true is are = subst (λ (k : ℕ). AreRuns free k (with_way n (runs_below free n))) (omega arith) (AreRuns-with_way n (runs_below free n) is are)
      by false is are = AreRuns-wider (n + 1) (suc n + 1) (runs_below free n) (omega arith) are

  -- ---- each span lies in a run

  pub IsInSome-below : (bound : ℕ) (runs : List Span) (span : Span) → AreRuns free bound runs → IsInSome span runs → end span < bound
  IsInSome-below bound [] span are is = absurd is
  IsInSome-below bound (run ∷ runs) span are (inl is) = omega (arith, is.ends, are.0.below)
  IsInSome-below bound (run ∷ runs) span are (inr is) = omega (arith, IsInSome-below run.first runs span are.1 is, are.0.below, are.0.any)

  IsInSome-with_way : (way : ℕ) (runs : List Span) (span : Span) → IsInSome span runs → IsInSome span (with_way way runs)
  IsInSome-with_way way [] span is = absurd is
  IsInSome-with_way way (run ∷ runs) span is = by (eqb (end run) way) is
    where
      by : (b : Bool) → IsInSome span (run ∷ runs) → IsInSome span (cond b (record { first = run.first; count = run.count + 1 } ∷ runs) (record { first = way; count = 1 } ∷ run ∷ runs))
      by true (inl here) = inl (record { begins = here.begins; ends = omega (arith, here.ends) })
      by true (inr later) = inr later
      by false h = inr h

  -- a span that ends at the way that is added
  ends-with_way : (way : ℕ) (runs : List Span) (span : Span) → AreRuns free (way + 1) runs → end span ≡ way + 1 → 1 ≤ span.count
      → (1 < span.count → IsInSome (shorter span) runs) → IsInSome span (with_way way runs)
  ends-with_way way [] span are ends any known = by (leb_tells 2 span.count)
    where
      by : ((leb 2 span.count ≡ true) × (2 ≤ span.count)) ⊎ ((leb 2 span.count ≡ false) × (span.count < 2)) → IsInSome span (with_way way [])
      by (inl more) = absurd (known (omega (arith, more.1)))
      by (inr one) = inl (record { begins = omega (arith, ends, one.1, any); ends = omega (arith, ends) })
  ends-with_way way (run ∷ runs) span are ends any known = by (eqb_tells (end run) way)
    where
      begins-in : end run ≡ way → 1 < span.count → IsInSome (shorter span) (run ∷ runs) → run.first ≤ span.first
      begins-in same more (inl is) = is.begins
      begins-in same more (inr is) = absurd (omega (arith, IsInSome-below run.first runs (shorter span) are.1 is, ends, same, are.0.any, more))

      ends-at : 1 < span.count → IsInSome (shorter span) (run ∷ runs) → end run ≡ way
      ends-at more (inl is) = omega (arith, is.ends, are.0.below, ends, more)
      ends-at more (inr is) = absurd (omega (arith, IsInSome-below run.first runs (shorter span) are.1 is, ends, are.0.below, are.0.any, more))

      by : ((eqb (end run) way ≡ true) × (end run ≡ way)) ⊎ ((eqb (end run) way ≡ false) × (end run ≢ way)) → IsInSome span (with_way way (run ∷ runs))
      by (inl same) = rw same.0 (inl (record { begins = first (leb_tells 2 span.count); ends = omega (arith, same.1, ends) }))
        where
          first : ((leb 2 span.count ≡ true) × (2 ≤ span.count)) ⊎ ((leb 2 span.count ≡ false) × (span.count < 2)) → run.first ≤ span.first
          first (inl more) = begins-in same.1 (omega (arith, more.1)) (known (omega (arith, more.1)))
          first (inr one) = omega (arith, ends, one.1, any, same.1)
      by (inr other) = rw other.0 (only (leb_tells 2 span.count))
        where
          only : ((leb 2 span.count ≡ true) × (2 ≤ span.count)) ⊎ ((leb 2 span.count ≡ false) × (span.count < 2)) → IsInSome span (record { first = way; count = 1 } ∷ run ∷ runs)
          only (inl more) = absurd (other.1 (ends-at (omega (arith, more.1)) (known (omega (arith, more.1)))))
          only (inr one) = inl (record { begins = omega (arith, ends, one.1, any); ends = omega (arith, ends) })

  pub IsInSome-runs : (n : ℕ) (span : Span) → 1 ≤ span.count → end span ≤ n → AreFree free span.first span.count → IsInSome span (runs_below free n)
  IsInSome-runs zero span any ends free_ways = absurd (omega (arith, any, ends))
  IsInSome-runs (suc n) span any ends free_ways = by (eqb_tells (end span) (n + 1)) (IsInSome-runs n)
    where
      earlier : (b : Bool) → IsInSome span (runs_below free n) → IsInSome span (cond b (with_way n (runs_below free n)) (runs_below free n))
      earlier true is = IsInSome-with_way n (runs_below free n) span is
      earlier false is = is

      by : ((eqb (end span) (n + 1) ≡ true) × (end span ≡ n + 1)) ⊎ ((eqb (end span) (n + 1) ≡ false) × (end span ≢ n + 1))
          → ((s : Span) → 1 ≤ s.count → end s ≤ n → AreFree free s.first s.count → IsInSome s (runs_below free n)) → IsInSome span (runs_below free (suc n))
      by (inl last) lower =
          let is : get_or free n false ≡ true = free_ways n (omega (arith, last.1, any)) (omega (arith, last.1)) in
          rw is (ends-with_way n (runs_below free n) span (AreRuns-below n) last.1 any
          (λ more. lower (shorter span) (omega (arith, more)) (omega (arith, last.1, any))
          (λ k above below. free_ways k above (omega (arith, below)))))
      by (inr other) lower = earlier (get_or free n false) (lower span any (omega (arith, ends, other.1)) free_ways)

-- ---- what the code asks

pub within-runs : (free : List Bool) (bound most : ℕ) (runs : List Span) → bound ≤ most + 1 → AreRuns free bound runs → All (λ (run : Span). end run ≤ most) runs
within-runs free bound most [] le are = All-nil (λ (r : Span). end r ≤ most)
within-runs free bound most (run ∷ runs) le are =
    All-cons (λ (r : Span). end r ≤ most) run runs (omega (arith, are.0.below, le)) (within-runs free run.first most runs (omega (arith, are.0.below, are.0.any, le)) are.1)
