-- What spans take of the runs, by the place of each run.
use Rattle.std.proofs.Common.{◌≡◌, ◌≢◌, ℕ, zero, suc, ◌+◌, ◌-◌, ◌*◌, ◌/◌, ◌%◌, ◌≤◌, ◌⊎◌, inl, inr, true, false, List, [], ◌∷◌, length, get_or, Option, Some, refl, sym, ap, ◌∙◌, subst, arith}
use Rattle.std.specs.Prelude.{All}
use Rattle.std.proofs.Math.Dec.{eqb}
use Rattle.std.proofs.lemmas.Bool.Decides.{eqb_tells}
use Rattle.std.proofs.Math.Nat.{mul_assoc}
use Rattle.std.proofs.lemmas.List.Elements.{All-tail}
use Rattle.way_plans.specs.declared.placed.Placed.{Placed}
use Rattle.way_plans.specs.declared.span.Span.{Span}
use Rattle.way_plans.specs.Placings.{BeatsAmong, IsNoFewer, IsPlacedAmong, left_at, lowest_of, placed_at}
use Rattle.way_plans.proofs.Lefts.{count_at, first_at, shrunk, stride_at}
use Rattle.way_plans.proofs.Homes.{taken}

-- ---- places by their number

module _ (least : ℕ) (group : List ℕ) (next : List (Option Placed)) (state : ℕ) where
  -- a group that gets the lowest ways of the run at a place
  pub record IsPlacedBy (runs : List Span) (stride left piece : ℕ) (placed : Placed) : Type 0 where
    pub begins : placed.span.first ≡ first_at (left_at runs left) piece
    pub enough : least ≤ placed.span.count
    pub within : placed.span.count ≤ count_at (left_at runs left) piece
    pub rest : placed_at group next (state - placed.span.count * (stride * stride_at runs piece)) placed.span ≡ Some placed

  pub by-piece : (runs : List Span) (stride left : ℕ) (placed : Placed) (R : Type 0) → ((piece : ℕ) → IsPlacedBy runs stride left piece placed → R) → IsPlacedAmong least group next state runs stride left placed → R
  by-piece [] stride left placed R then is = absurd is
  by-piece (run ∷ runs) stride left placed R then (inl is) = let one : stride * 1 ≡ stride = omega arith in then zero (record {
    begins = ap (λ (s : Span). s.first) is.lowest;
    enough = is.enough;
    within = is.within;
    rest = ap (λ (n : ℕ). placed_at group next (state - placed.span.count * n) placed.span) one ∙ is.rest;
  })
  by-piece (run ∷ runs) stride left placed R then (inr is) =
      by-piece runs (stride * (run.count + 1)) (left / (run.count + 1)) placed R
      (λ piece h. then (suc piece) (record {
        begins = h.begins;
        enough = h.enough;
        within = h.within;
        rest = ap (λ (n : ℕ). placed_at group next (state - placed.span.count * n) placed.span) (sym (mul_assoc stride (run.count + 1) (stride_at runs piece))) ∙ h.rest;
      })) is

  -- no place of a run gives fewer misses
  pub beaten-by : (runs : List Span) (stride left : ℕ) (best : Option Placed) → BeatsAmong least group next state runs stride left best → (piece count : ℕ) → 1 ≤ count → least ≤ count → count ≤ count_at (left_at runs left) piece
      → (R : Type 0) → ((span : Span) → span.count ≡ count → IsNoFewer (placed_at group next (state - count * (stride * stride_at runs piece)) span) best → R) → R
  beaten-by [] stride left best beats piece count any enough within R then = absurd (omega (arith, any, within))
  beaten-by (run ∷ runs) stride left best beats zero count any enough within R then =
      let one : stride ≡ stride * 1 = omega arith in
      then (lowest_of run (left % (run.count + 1)) count) refl
      (subst (λ (n : ℕ). IsNoFewer (placed_at group next (state - count * n) (lowest_of run (left % (run.count + 1)) count)) best) one (beats.0 count enough within))
  beaten-by (run ∷ runs) stride left best beats (suc piece) count any enough within R then =
      beaten-by runs (stride * (run.count + 1)) (left / (run.count + 1)) best beats.1 piece count any enough within R
      (λ span same h. then span same
      (subst (λ (n : ℕ). IsNoFewer (placed_at group next (state - count * n) span) best) (mul_assoc stride (run.count + 1) (stride_at runs piece)) h))

-- ---- what is taken of runs

-- the misses of groups with so many ways each
abbrev pub given_misses : List (List ℕ) → List (ℕ × ℕ) → ℕ
given_misses [] given = 0
given_misses (group ∷ groups) [] = 0
given_misses (group ∷ groups) ((place, count) ∷ given) = get_or group count 0 + given_misses groups given

-- each group gets enough ways of a run, and no run has more ways taken than it has
pub record IsGiven (least : ℕ) (left : List Span) (groups : List (List ℕ)) (given : List (ℕ × ℕ)) : Type 0 where
  pub all : length given ≡ length groups
  pub enough : All (λ (g : ℕ × ℕ). least ≤ g.1) given
  pub within : (piece : ℕ) → taken piece given ≤ count_at left piece

pub taken-own : (place count : ℕ) (given : List (ℕ × ℕ)) → taken place ((place, count) ∷ given) ≡ count + taken place given
taken-own place count given = by (eqb_tells place place)
  where
    by : ((eqb place place ≡ true) × (place ≡ place)) ⊎ ((eqb place place ≡ false) × (place ≢ place)) → taken place ((place, count) ∷ given) ≡ count + taken place given
    by (inl same) = rw same.0 refl
    by (inr other) = absurd (other.1 refl)

count_at-shrunk : (left : List Span) (place count piece : ℕ) → place ≢ piece → count_at (shrunk left place count) piece ≡ count_at left piece
count_at-shrunk [] place count piece other = refl
count_at-shrunk (run ∷ runs) zero count zero other = absurd (other refl)
count_at-shrunk (run ∷ runs) zero count (suc piece) other = refl
count_at-shrunk (run ∷ runs) (suc place) count zero other = refl
count_at-shrunk (run ∷ runs) (suc place) count (suc piece) other = count_at-shrunk runs place count piece (λ same. other (ap suc same))

count_at-own : (left : List Span) (place count : ℕ) → count_at (shrunk left place count) place ≡ count_at left place - count
count_at-own [] place count = omega arith
count_at-own (run ∷ runs) zero count = refl
count_at-own (run ∷ runs) (suc place) count = count_at-own runs place count

within-shrunk : (left : List Span) (place count : ℕ) (given : List (ℕ × ℕ)) → ((piece : ℕ) → taken piece ((place, count) ∷ given) ≤ count_at left piece) → (piece : ℕ) → taken piece given ≤ count_at (shrunk left place count) piece
within-shrunk left place count given within piece = by (eqb_tells place piece)
  where
    by : ((eqb place piece ≡ true) × (place ≡ piece)) ⊎ ((eqb place piece ≡ false) × (place ≢ piece)) → taken piece given ≤ count_at (shrunk left place count) piece
    by (inl same) = subst (λ (p : ℕ). taken p given ≤ count_at (shrunk left place count) p) same.1 (rw (count_at-own left place count) (omega (arith, within place, taken-own place count given)))
    by (inr other) = rw (count_at-shrunk left place count piece other.1) (let more : taken piece ((place, count) ∷ given) ≤ count_at left piece = within piece in omega (arith, more))

pub IsGiven-rest : (least : ℕ) (left : List Span) (group : List ℕ) (groups : List (List ℕ)) (place count : ℕ) (given : List (ℕ × ℕ)) → IsGiven least left (group ∷ groups) ((place, count) ∷ given)
    → IsGiven least (shrunk left place count) groups given
IsGiven-rest least left group groups place count given is = record {
  all = omega (arith, is.all);
  enough = All-tail (λ (g : ℕ × ℕ). least ≤ g.1) (place, count) given is.enough;
  within = within-shrunk left place count given is.within;
}
