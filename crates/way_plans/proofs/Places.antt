-- The best place of a group.
use Rattle.std.proofs.Common.{◌≡◌, ◌≢◌, ℕ, ◌+◌, ◌-◌, ◌*◌, ◌/◌, ◌%◌, ◌<◌, ◌≤◌, ◌⊎◌, inl, inr, true, false, List, [], ◌∷◌, length, take, drop, take_all, get_or, Option, Some, None, IfSome, refl, sym, ap, ◌∙◌, subst, arith}
use Rattle.std.proofs.Math.Dec.{eqb}
use Rattle.std.proofs.Math.Nat.{div-mul-le_self, mul-le-mul_left, mul-le-mul_right, mul_assoc, mul_comm}
use Rattle.std.specs.Prelude.{All}
use Rattle.std.proofs.lemmas.List.Elements.{All-drop, All-take}
use Rattle.std.proofs.lemmas.Bool.Decides.{eqb_tells}
use Rattle.way_plans.specs.declared.placed.Placed.{Placed}
use Rattle.way_plans.specs.declared.span.Span.{Span}
use Rattle.way_plans.specs.Placings.{BeatsAmong, BeatsIn, IsBestAmong, IsNoFewer, IsPlacedAmong, IsPlacedIn, at, fewer, lowest_of, placed_at, with_rest}
use Rattle.way_plans.specs.Runs.{states_of}
use Rattle.way_plans.proofs.Lefts.{states_of-some}
use Rattle.way_plans.proofs.Fewer.{IfSome-fewer, IsNoFewer-first, IsNoFewer-same, IsNoFewer-second}

-- ---- what a state counts of the runs behind the first

abbrev pub front : List Span → Span
front runs = get_or runs 0 (record { first = 0; count = 0 })

abbrev pub behind_front : List Span → List Span
behind_front runs = take (length runs - 1) (drop 1 runs)

behind-cons : (run : Span) (runs : List Span) → behind_front (run ∷ runs) ≡ runs
behind-cons run runs = take_all (length (run ∷ runs) - 1) runs (omega arith)

-- they are fewer
pub shorter-behind : (runs : List Span) → 1 ≤ length runs → length (behind_front runs) < length runs
shorter-behind [] some = absurd (omega (arith, some))
shorter-behind (run ∷ runs) some = let same : length (behind_front (run ∷ runs)) ≡ length runs = ap length (behind-cons run runs) in omega (arith, same)

-- their steps
pub states-behind : (runs : List Span) (stride most : ℕ) → 1 ≤ length runs → stride * states_of runs ≤ most → stride * ((front runs).count + 1) * states_of (behind_front runs) ≤ most
states-behind [] stride most some few = absurd (omega (arith, some))
states-behind (run ∷ runs) stride most some few =
    let all : stride * (run.count + 1) * states_of (behind_front (run ∷ runs)) ≡ stride * ((run.count + 1) * states_of runs) =
    ap (λ (r : List Span). stride * (run.count + 1) * states_of r) (behind-cons run runs) ∙ mul_assoc stride (run.count + 1) (states_of runs) in
    subst (λ (n : ℕ). n ≤ most) (sym all) few

-- a step of them is no more than all states
pub stride-behind : (runs : List Span) (stride most : ℕ) → 1 ≤ length runs → stride * states_of runs ≤ most → stride * ((front runs).count + 1) ≤ most
stride-behind runs stride most some few =
    let steps : ℕ = stride * ((front runs).count + 1) in
    let all : steps * states_of (behind_front runs) ≤ most = states-behind runs stride most some few in
    let one : steps * 1 ≤ steps * states_of (behind_front runs) = mul-le-mul_left steps (states_of-some (behind_front runs)) in
    omega (arith, all, one)

-- what is left of them in whole steps
pub steps-behind : (left counts stride state : ℕ) → left * stride ≤ state → left / counts * (stride * counts) ≤ state
steps-behind left counts stride state le =
    let turned : left / counts * (stride * counts) ≡ left / counts * counts * stride = ap (λ (n : ℕ). left / counts * n) (mul_comm stride counts) ∙ sym (mul_assoc (left / counts) counts stride) in
    let less : left / counts * counts * stride ≤ left * stride = mul-le-mul_right stride (div-mul-le_self left counts) in
    omega (arith, turned, less, le)

-- what holds of runs holds of those behind the first
pub All-behind : (P : Span → Type 0) (runs : List Span) → All P runs → All P (behind_front runs)
All-behind P runs all = All-take P (length runs - 1) (drop 1 runs) (All-drop P 1 runs all)

module _ (least : ℕ) (group : List ℕ) (next : List (Option Placed)) (state : ℕ) where
  -- ways of a run make a place
  pub IsPlacedIn-at : (stride : ℕ) (run : Span) (left count : ℕ) → least ≤ count → count ≤ left
      → IfSome (placed_at group next (state - count * stride) (lowest_of run left count)) (IsPlacedIn least group next state stride run left)
  IsPlacedIn-at stride run left count enough within = by (at next (state - count * stride)) refl
    where
      by : (o : Option Placed) → at next (state - count * stride) ≡ o → IfSome (with_rest group (lowest_of run left count) (state - count * stride) o) (IsPlacedIn least group next state stride run left)
      by None is = tt
      by (Some later) is = record { lowest = refl; enough = enough; within = within; rest = ap (with_rest group (lowest_of run left count) (state - count * stride)) is }

  -- one number of ways more
  pub IsNoFewer-more : (f : ℕ → Option Placed) (left n : ℕ) (best : Option Placed) → ((count : ℕ) → least ≤ count → count ≤ left → count < n → IsNoFewer (f count) best)
      → (count : ℕ) → least ≤ count → count ≤ left → count < n + 1 → IsNoFewer (f count) (fewer best (f n))
  IsNoFewer-more f left n best known count enough within below = by (eqb_tells count n)
    where
      by : ((eqb count n ≡ true) × (count ≡ n)) ⊎ ((eqb count n ≡ false) × (count ≢ n)) → IsNoFewer (f count) (fewer best (f n))
      by (inl same) = subst (λ (k : ℕ). IsNoFewer (f k) (fewer best (f n))) (sym same.1) (IsNoFewer-second (f n) best (f n) (IsNoFewer-same (f n)))
      by (inr other) = IsNoFewer-first (f count) best (f n) (known count enough within (omega (arith, below, other.1)))

  BeatsAmong-first : (runs : List Span) (stride left : ℕ) (first second : Option Placed) → BeatsAmong least group next state runs stride left first → BeatsAmong least group next state runs stride left (fewer first second)
  BeatsAmong-first [] stride left first second beats = tt
  BeatsAmong-first (run ∷ runs) stride left first second beats = (
    λ count enough within. IsNoFewer-first (placed_at group next (state - count * stride) (lowest_of run (left % (run.count + 1)) count)) first second (beats.0 count enough within),
    BeatsAmong-first runs (stride * (run.count + 1)) (left / (run.count + 1)) first second beats.1,
  )

  -- the better of the best in a run and the best in the others
  pub IsBestAmong-cons : (run : Span) (runs : List Span) (stride left : ℕ) (here behind : Option Placed)
      → IfSome here (IsPlacedIn least group next state stride run (left % (run.count + 1))) → BeatsIn least group next state stride run (left % (run.count + 1)) here
      → IsBestAmong least group next state runs (stride * (run.count + 1)) (left / (run.count + 1)) behind → IsBestAmong least group next state (run ∷ runs) stride left (fewer behind here)
  IsBestAmong-cons run runs stride left here behind placed beats rest = record {
    placed = IfSome-fewer (IsPlacedAmong least group next state (run ∷ runs) stride left) behind here (second behind rest.placed) (first here placed);
    beats = (
      λ count enough within. IsNoFewer-second (placed_at group next (state - count * stride) (lowest_of run (left % (run.count + 1)) count)) behind here (beats count enough within),
      BeatsAmong-first runs (stride * (run.count + 1)) (left / (run.count + 1)) behind here rest.beats,
    );
  }
    where
      first : (best : Option Placed) → IfSome best (IsPlacedIn least group next state stride run (left % (run.count + 1))) → IfSome best (IsPlacedAmong least group next state (run ∷ runs) stride left)
      first None h = tt
      first (Some best) h = inl h

      second : (best : Option Placed) → IfSome best (IsPlacedAmong least group next state runs (stride * (run.count + 1)) (left / (run.count + 1))) → IfSome best (IsPlacedAmong least group next state (run ∷ runs) stride left)
      second None h = tt
      second (Some best) h = inr h

  -- the same of any runs
  pub IsBestAmong-front : (runs : List Span) (stride left : ℕ) (here behind : Option Placed) → 1 ≤ length runs
      → IfSome here (IsPlacedIn least group next state stride (front runs) (left % ((front runs).count + 1))) → BeatsIn least group next state stride (front runs) (left % ((front runs).count + 1)) here
      → IsBestAmong least group next state (behind_front runs) (stride * ((front runs).count + 1)) (left / ((front runs).count + 1)) behind → IsBestAmong least group next state runs stride left (fewer behind here)
  IsBestAmong-front [] stride left here behind some placed beats rest = absurd (omega (arith, some))
  IsBestAmong-front (run ∷ runs) stride left here behind some placed beats rest =
      IsBestAmong-cons run runs stride left here behind placed beats
      (subst (λ (r : List Span). IsBestAmong least group next state r (stride * (run.count + 1)) (left / (run.count + 1)) behind) (behind-cons run runs) rest)
