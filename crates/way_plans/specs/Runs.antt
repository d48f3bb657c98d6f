-- Runs of free ways, and how many states they have.
use Rattle.std.specs.Prelude.{ℕ, zero, suc, ◌+◌, ◌*◌, ◌==◌, if◌then◌else◌, Bool, false, List, [], ◌∷◌, get_or, length}
use Rattle.way_plans.specs.declared.span.Span.{Span}
use Rattle.way_plans.specs.Divisions.{end}

-- runs, the highest first, and a free way behind them: it belongs to the highest run where that ends at it
abbrev pub with_way : ℕ → List Span → List Span
with_way way [] = record { first = way; count = 1 } ∷ []
with_way way (run ∷ runs) =
    if end run == way then record { first = run.first; count = run.count + 1 } ∷ runs else record { first = way; count = 1 } ∷ run ∷ runs

-- the runs of free ways among so many ways from way 0 on, the highest first
abbrev pub runs_below : List Bool → ℕ → List Span
runs_below free zero = []
runs_below free (suc way) = if get_or free way false then with_way way (runs_below free way) else runs_below free way

-- the runs of free ways of a cache, the highest first
abbrev pub runs_of : List Bool → List Span
runs_of free = runs_below free (length free)

-- In how many states the runs can be, where each may have from none to all of its ways left.
abbrev pub states_of : List Span → ℕ
states_of [] = 1
states_of (run ∷ runs) = (run.count + 1) * states_of runs
