-- Rows of the table: what is best for the groups from one on, from each way on.
-- (For functions and proofs: no promise of the program stands on it.)
use Rattle.std.specs.Prelude.{◌≡◌, ℕ, ◌+◌, ◌≤◌, nat_lt, Bool, List, [], ◌∷◌, Option, Some, None, IfSome, All, replicate, get_or, if◌then◌else◌}
use Rattle.way_plans.specs.declared.choice.Choice.{Choice}
use Rattle.way_plans.specs.declared.span.Span.{Span}
use Rattle.way_plans.specs.Divisions.{IsSpan, end}

-- the better of two choices, the first where they have as many misses
abbrev pub better : Option Choice → Option Choice → Option Choice
better None second = second
better (Some a) None = Some a
better (Some a) (Some b) = if nat_lt b.misses a.misses then Some b else Some a

-- what a row has from a way on
abbrev pub at : List (Option Choice) → ℕ → Option Choice
at row way = get_or row way None

-- a span for a group, and what is best for the groups after it behind the span
abbrev pub with_span : List ℕ → Span → Option Choice → Option Choice
with_span group span None = None
with_span group span (Some rest) = Some (record { span = span; misses = get_or group span.count 0 + rest.misses })

-- the same by the row of the groups after it
abbrev pub choice_of : List ℕ → List (Option Choice) → Span → Option Choice
choice_of group next span = with_span group span (at next (end span))

-- a choice, if it is one, has no fewer misses than the best
abbrev pub IsNoBetter : Option Choice → Option Choice → Type 0
IsNoBetter None best = Unit {0}
IsNoBetter (Some choice) None = ⊥
IsNoBetter (Some choice) (Some best) = best.misses ≤ choice.misses

-- The best choice of a group's span from a way on, if there is any.
pub record IsBestFrom (free : List Bool) (least : ℕ) (group : List ℕ) (next : List (Option Choice)) (from : ℕ) (best : Option Choice) : Type 0 where
  pub chosen : IfSome best (λ choice. (IsSpan free least from choice.span) × (choice_of group next choice.span ≡ Some choice))
  pub others : (span : Span) → IsSpan free least from span → IsNoBetter (choice_of group next span) best

-- no group has no misses
abbrev pub nothing : Choice
nothing = record { span = record { first = 0; count = 0 }; misses = 0 }

-- the first row, or none
abbrev pub first_row : List (List (Option Choice)) → List (Option Choice)
first_row table = get_or table 0 []

-- the rows of some groups: of all, of those after the first, and so on; the last is that of no group
abbrev pub AreRows : List Bool → ℕ → List (List ℕ) → List (List (Option Choice)) → Type 0
AreRows free least [] rows = rows ≡ replicate 33 (Some nothing) ∷ []
AreRows free least (group ∷ groups) [] = ⊥
AreRows free least (group ∷ groups) (row ∷ rows) = ((way : ℕ) → IsBestFrom free least group (first_row rows) way (at row way)) × (AreRows free least groups rows)

-- the way behind a choice
abbrev pub end_of : Option Choice → ℕ
end_of None = 0
end_of (Some choice) = end choice.span

-- the span of a choice, and those behind it
abbrev pub with_choice : Option Choice → List Span → List Span
with_choice None rest = []
with_choice (Some choice) rest = choice.span ∷ rest

-- the spans that the rows tell from a way on
abbrev pub spans_from : List (List ℕ) → List (List (Option Choice)) → ℕ → List Span
spans_from [] rows from = []
spans_from (group ∷ groups) [] from = []
spans_from (group ∷ groups) (row ∷ rows) from = with_choice (at row from) (spans_from groups rows (end_of (at row from)))

-- each choice ends within the ways of a cache
abbrev pub AreWithin : List (List (Option Choice)) → Type 0
AreWithin rows = All (All (λ (c : Option Choice). IfSome c (λ choice. end choice.span ≤ 32))) rows
