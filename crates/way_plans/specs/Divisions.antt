-- Divisions of the ways of a cache among groups.
use Rattle.std.specs.Prelude.{◌≡◌, ℕ, ◌+◌, ◌<◌, ◌≤◌, Bool, true, false, List, [], ◌∷◌, get_or}
use Rattle.way_plans.specs.declared.span.Span.{Span}

-- the first way behind a span
abbrev pub end : Span → ℕ
end span = span.first + span.count

-- each of so many ways from one on may be given to a group; a way past the last may not
abbrev pub AreFree : List Bool → ℕ → ℕ → Type 0
AreFree free first count = (way : ℕ) → first ≤ way → way < first + count → get_or free way false ≡ true

-- A span that a group may get: at least so many ways, all free and none below a way.
pub record IsSpan (free : List Bool) (least from : ℕ) (span : Span) : Type 0 where
  pub above : from ≤ span.first
  pub enough : least ≤ span.count
  pub free_ways : AreFree free span.first span.count

-- Each group has a span, in order and none meeting another, from a way on. A group is given by its misses with each number of ways.
abbrev pub IsDivision : List Bool → ℕ → ℕ → List (List ℕ) → List Span → Type 0
IsDivision free least from [] [] = Unit {0}
IsDivision free least from [] (span ∷ spans) = ⊥
IsDivision free least from (group ∷ groups) [] = ⊥
IsDivision free least from (group ∷ groups) (span ∷ spans) = (IsSpan free least from span) × (IsDivision free least (end span) groups spans)

-- how many misses the groups have together
abbrev pub misses_of : List (List ℕ) → List Span → ℕ
misses_of [] spans = 0
misses_of (group ∷ groups) [] = 0
misses_of (group ∷ groups) (span ∷ spans) = get_or group span.count 0 + misses_of groups spans

-- A division than which no other has fewer misses in all.
pub record IsBestDivision (free : List Bool) (least : ℕ) (groups : List (List ℕ)) (spans : List Span) : Type 0 where
  pub division : IsDivision free least 0 groups spans
  pub best : (others : List Span) → IsDivision free least 0 groups others → misses_of groups spans ≤ misses_of groups others
