-- The table of all orders: what is best for the groups from one on in each state of the runs.
-- (For functions and proofs: no promise of the program stands on it.)
use Rattle.std.specs.Prelude.{◌≡◌, ℕ, ◌+◌, ◌-◌, ◌*◌, ◌/◌, ◌%◌, ◌<◌, ◌≤◌, ◌⊎◌, nat_lt, List, [], ◌∷◌, Option, Some, None, IfSome, replicate, get_or, length, if◌then◌else◌}
use Rattle.way_plans.specs.declared.placed.Placed.{Placed}
use Rattle.way_plans.specs.declared.span.Span.{Span}
use Rattle.way_plans.specs.Divisions.{end}
use Rattle.way_plans.specs.Runs.{states_of}

-- the better of two, the first where they have as many misses
abbrev pub fewer : Option Placed → Option Placed → Option Placed
fewer None second = second
fewer (Some a) None = Some a
fewer (Some a) (Some b) = if nat_lt b.misses a.misses then Some b else Some a

-- what a row has in a state
abbrev pub at : List (Option Placed) → ℕ → Option Placed
at row state = get_or row state None

-- what a group and those after it have where it gets a span and leaves this state
abbrev pub with_rest : List ℕ → Span → ℕ → Option Placed → Option Placed
with_rest group span rest None = None
with_rest group span rest (Some later) = Some (record { span = span; misses = get_or group span.count 0 + later.misses; rest = rest })

-- the same by the row of the groups after it
abbrev pub placed_at : List ℕ → List (Option Placed) → ℕ → Span → Option Placed
placed_at group next rest span = with_rest group span rest (at next rest)

-- one, if it is any, has no fewer misses than the best
abbrev pub IsNoFewer : Option Placed → Option Placed → Type 0
IsNoFewer None best = Unit {0}
IsNoFewer (Some placed) None = ⊥
IsNoFewer (Some placed) (Some best) = best.misses ≤ placed.misses

-- the span of the lowest ways that are left of a run
abbrev pub lowest_of : Span → ℕ → ℕ → Span
lowest_of run left count = record { first = end run - left; count = count }

-- A group that gets the lowest ways that are left of a run. A state counts the ways that are left of the run in steps of `stride`.
pub record IsPlacedIn (least : ℕ) (group : List ℕ) (next : List (Option Placed)) (state stride : ℕ) (run : Span) (left : ℕ) (placed : Placed) : Type 0 where
  pub lowest : placed.span ≡ lowest_of run left placed.span.count
  pub enough : least ≤ placed.span.count
  pub within : placed.span.count ≤ left
  pub rest : placed_at group next (state - placed.span.count * stride) placed.span ≡ Some placed

-- no number of ways that are left of a run gives a group and those after it fewer misses
abbrev pub BeatsIn : ℕ → List ℕ → List (Option Placed) → ℕ → ℕ → Span → ℕ → Option Placed → Type 0
BeatsIn least group next state stride run left best =
    (count : ℕ) → least ≤ count → count ≤ left → IsNoFewer (placed_at group next (state - count * stride) (lowest_of run left count)) best

module _ (least : ℕ) (group : List ℕ) (next : List (Option Placed)) (state : ℕ) where
  -- a group that gets ways of one of these runs, of which this is left, in steps of `stride`
  abbrev pub IsPlacedAmong : List Span → ℕ → ℕ → Placed → Type 0
  IsPlacedAmong [] stride left placed = ⊥
  IsPlacedAmong (run ∷ runs) stride left placed =
      (IsPlacedIn least group next state stride run (left % (run.count + 1)) placed) ⊎ (IsPlacedAmong runs (stride * (run.count + 1)) (left / (run.count + 1)) placed)

  -- none of them gives fewer misses
  abbrev pub BeatsAmong : List Span → ℕ → ℕ → Option Placed → Type 0
  BeatsAmong [] stride left best = Unit {0}
  BeatsAmong (run ∷ runs) stride left best =
      (BeatsIn least group next state stride run (left % (run.count + 1)) best) × (BeatsAmong runs (stride * (run.count + 1)) (left / (run.count + 1)) best)

-- The best for a group and those after it in a state, if they have ways at all.
pub record IsBestAmong (least : ℕ) (group : List ℕ) (next : List (Option Placed)) (state : ℕ) (runs : List Span) (stride left : ℕ) (best : Option Placed) : Type 0 where
  pub placed : IfSome best (IsPlacedAmong least group next state runs stride left)
  pub beats : BeatsAmong least group next state runs stride left best

-- no group has no misses
abbrev pub done : Placed
done = record { span = record { first = 0; count = 0 }; misses = 0; rest = 0 }

-- the first row, or none
abbrev pub first_row : List (List (Option Placed)) → List (Option Placed)
first_row rows = get_or rows 0 []

-- The row of a group, by that of those after it: what is best in each state.
pub record IsStateRow (least : ℕ) (runs : List Span) (group : List ℕ) (next row : List (Option Placed)) : Type 0 where
  pub states : length row ≡ states_of runs
  pub best : (state : ℕ) → state < states_of runs → IsBestAmong least group next state runs 1 state (at row state)

-- the rows of some groups: of all, of those after the first, and so on; the last is that of no group
abbrev pub AreStateRows : ℕ → List Span → List (List ℕ) → List (List (Option Placed)) → Type 0
AreStateRows least runs [] rows = rows ≡ replicate (states_of runs) (Some done) ∷ []
AreStateRows least runs (group ∷ groups) [] = ⊥
AreStateRows least runs (group ∷ groups) (row ∷ rows) = (IsStateRow least runs group (first_row rows) row) × (AreStateRows least runs groups rows)

-- what is left of runs in a state: of each its highest ways
abbrev pub left_at : List Span → ℕ → List Span
left_at [] left = []
left_at (run ∷ runs) left = lowest_of run (left % (run.count + 1)) (left % (run.count + 1)) ∷ left_at runs (left / (run.count + 1))

-- the state that is left
abbrev pub rest_of : Option Placed → ℕ
rest_of None = 0
rest_of (Some placed) = placed.rest

-- a span, and those after it
abbrev pub with_placed : Option Placed → List Span → List Span
with_placed None rest = []
with_placed (Some placed) rest = placed.span ∷ rest

-- the spans that the rows tell from a state on
abbrev pub spans_at : List (List ℕ) → List (List (Option Placed)) → ℕ → List Span
spans_at [] rows state = []
spans_at (group ∷ groups) [] state = []
spans_at (group ∷ groups) (row ∷ rows) state = with_placed (at row state) (spans_at groups rows (rest_of (at row state)))
