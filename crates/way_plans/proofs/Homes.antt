-- The run in which a span lies, and how many ways spans take of each run.
use Rattle.std.proofs.Common.{◌≡◌, ◌≢◌, ℕ, zero, suc, ◌+◌, ◌<◌, ◌≤◌, ◌⊎◌, inl, inr, Bool, true, false, cond, List, [], ◌∷◌, map, get_or, refl, sym, ap, ◌∙◌, subst, arith, true≢false}
use Rattle.std.specs.Prelude.{All, AllPairs, ◌&&◌}
use Rattle.std.proofs.Math.Dec.{eqb, leb}
use Rattle.std.proofs.lemmas.Bool.Decides.{eqb_tells, leb_tells}
use Rattle.std.proofs.lemmas.List.Elements.{All-head, All-tail}
use Rattle.way_plans.specs.AnyOrder.{AreApart}
use Rattle.way_plans.specs.declared.span.Span.{Span}
use Rattle.way_plans.specs.Divisions.{end}
use Rattle.way_plans.proofs.Lefts.{count_at}
use Rattle.way_plans.proofs.RunLists.{IsIn, IsInSome}
use Rattle.way_plans.proofs.Packed.{ways_of, ways_of-le}

-- the place of the run in which a span lies
abbrev pub home : List Span → Span → ℕ
home [] span = 0
home (run ∷ runs) span = cond (leb run.first span.first && leb (end span) (end run)) 0 (suc (home runs span))

-- the run at a place
abbrev run_at : List Span → ℕ → Span
run_at [] piece = record { first = 0; count = 0 }
run_at (run ∷ runs) zero = run
run_at (run ∷ runs) (suc piece) = run_at runs piece

count_at-run : (runs : List Span) (piece : ℕ) → count_at runs piece ≡ (run_at runs piece).count
count_at-run [] piece = refl
count_at-run (run ∷ runs) zero = refl
count_at-run (run ∷ runs) (suc piece) = count_at-run runs piece

IsIn-home : (runs : List Span) (span : Span) → IsInSome span runs → IsIn (run_at runs (home runs span)) span
IsIn-home [] span is = absurd is
IsIn-home (run ∷ runs) span is = by (leb_tells run.first span.first) (leb_tells (end span) (end run)) is (IsIn-home runs span)
  where
    by : ((leb run.first span.first ≡ true) × (run.first ≤ span.first)) ⊎ ((leb run.first span.first ≡ false) × (span.first < run.first))
        → ((leb (end span) (end run) ≡ true) × (end span ≤ end run)) ⊎ ((leb (end span) (end run) ≡ false) × (end run < end span))
        → IsInSome span (run ∷ runs) → (IsInSome span runs → IsIn (run_at runs (home runs span)) span) → IsIn (run_at (run ∷ runs) (home (run ∷ runs) span)) span
    by (inl a) (inl b) h later = rw (a.0, b.0) (record { begins = a.1; ends = b.1 })
    by (inl a) (inr b) (inl h) later = absurd (omega (arith, h.ends, b.1))
    by (inl a) (inr b) (inr h) later = rw (a.0, b.0) (later h)
    by (inr a) b (inl h) later = absurd (omega (arith, h.begins, a.1))
    by (inr a) b (inr h) later = rw a.0 (later h)

-- the places and the counts of spans
abbrev pub given_of : List Span → Span → ℕ × ℕ
given_of runs span = (home runs span, span.count)

-- how many ways are taken of the run at a place
abbrev pub taken : ℕ → List (ℕ × ℕ) → ℕ
taken piece [] = 0
taken piece ((place, count) ∷ given) = cond (eqb place piece) count 0 + taken piece given

taken-ways : (runs spans : List Span) (piece : ℕ) → taken piece (map (given_of runs) spans) ≡ ways_of (λ span. eqb (home runs span) piece) spans
taken-ways runs [] piece = refl
taken-ways runs (span ∷ spans) piece = ap (λ (n : ℕ). cond (eqb (home runs span) piece) span.count 0 + n) (taken-ways runs spans piece)

-- no run has more ways taken than it has
pub taken-le : (runs : List Span) (n : ℕ) (spans : List Span) → ((piece : ℕ) → end (run_at runs piece) ≤ n) → All (λ span. IsInSome span runs) spans → All (λ span. end span ≤ n) spans → AllPairs AreApart spans
    → (piece : ℕ) → taken piece (map (given_of runs) spans) ≤ count_at runs piece
taken-le runs n spans ends inside all apart piece =
    let chosen : Span → Bool = λ span. eqb (home runs span) piece in
    let own : All (λ span. chosen span ≡ true → IsIn (run_at runs piece) span) spans =
    λ k d within. λ is. subst (λ (p : ℕ). IsIn (run_at runs p) (get_or spans k d)) (same (get_or spans k d) is) (IsIn-home runs (get_or spans k d) (inside k d within)) in
    rw (taken-ways runs spans piece, count_at-run runs piece) (ways_of-le chosen (run_at runs piece) n spans (ends piece) all own apart)
  where
    same : (span : Span) → eqb (home runs span) piece ≡ true → home runs span ≡ piece
    same span is = by (eqb_tells (home runs span) piece)
      where
        by : ((eqb (home runs span) piece ≡ true) × (home runs span ≡ piece)) ⊎ ((eqb (home runs span) piece ≡ false) × (home runs span ≢ piece)) → home runs span ≡ piece
        by (inl h) = h.1
        by (inr h) = absurd (true≢false (sym is ∙ h.0))

pub run_at-ends : (runs : List Span) (n piece : ℕ) → All (λ run. end run ≤ n) runs → end (run_at runs piece) ≤ n
run_at-ends [] n piece all = omega arith
run_at-ends (run ∷ runs) n zero all = All-head (λ r. end r ≤ n) run runs all
run_at-ends (run ∷ runs) n (suc piece) all = run_at-ends runs n piece (All-tail (λ r. end r ≤ n) run runs all)
