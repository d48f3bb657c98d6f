-- Divisions of the ways of a cache among groups that may lie in any order.
use Rattle.std.specs.Prelude.{◌≡◌, ℕ, ◌≤◌, ◌⊎◌, Bool, List, length, All, AllPairs}
use Rattle.way_plans.specs.declared.span.Span.{Span}
use Rattle.way_plans.specs.Divisions.{IsSpan, end, misses_of}

-- no way is in both of two spans: one ends where the other begins, or before
abbrev pub AreApart : Span → Span → Type 0
AreApart a b = (end a ≤ b.first) ⊎ (end b ≤ a.first)

-- Each group has a span, wherever it lies, and no two have a way in common.
pub record IsDivisionInAnyOrder (free : List Bool) (least : ℕ) (groups : List (List ℕ)) (spans : List Span) : Type 0 where
  pub all : length spans ≡ length groups
  pub each : All (IsSpan free least 0) spans
  pub apart : AllPairs AreApart spans

-- A division than which no other, in whatever order, has fewer misses in all.
pub record IsBestInAnyOrder (free : List Bool) (least : ℕ) (groups : List (List ℕ)) (spans : List Span) : Type 0 where
  pub division : IsDivisionInAnyOrder free least groups spans
  pub best : (others : List Span) → IsDivisionInAnyOrder free least groups others → misses_of groups spans ≤ misses_of groups others
