-- What programs miss in caches of their own, and in one that they share. The uses are those that come to these caches: where levels
-- stand before them, those that the levels leave.
use Rattle.std.specs.Prelude.{ℕ, ◌+◌, ◌-◌, ◌*◌, ◌/◌, ◌^◌, ◌==◌, ◌&&◌, List, [], ◌∷◌, ◌++◌, length, map}
use Rattle.std.specs.List.{filter, range_with_len}
use Rattle.lists.specs.Sums.{one_if}
use Rattle.way_curve.specs.Curves.{is_set_hit, set_hits_of}
use Rattle.share_plans.specs.declared.program_use.ProgramUse.{ProgramUse}

-- ---- caches of their own

-- the lines that a program uses, in order
abbrev pub lines_of : ℕ → List ProgramUse → List ℕ
lines_of program uses = map (λ (u : ProgramUse). u.line) (filter (λ (u : ProgramUse). u.program == program) uses)

-- how many uses of these lines miss in private caches, one for each set, of so many ways
abbrev pub misses_in : ℕ → List ℕ → ℕ → ℕ
misses_in sets lines ways = length lines - set_hits_of sets ways lines

-- the same with each number of ways from 0 to 32
abbrev pub misses_by : ℕ → List ℕ → List ℕ
misses_by sets lines = map (misses_in sets lines) (range_with_len 0 33)

-- ---- one cache that all share

-- a multiple of the sets, and more than any number of a line of memory
abbrev pub far : ℕ → ℕ
far sets = (2 ^ 42 / sets + 1) * sets

-- The number of a program's line in the cache that all share. The same line of memory is another one for each program. All of them are
-- in the set of the line's own number.
abbrev pub shared_line : ℕ → ProgramUse → ℕ
shared_line sets u = u.program * far sets + u.line

-- the lines of all uses in that cache, in order
abbrev pub shared_lines : ℕ → List ProgramUse → List ℕ
shared_lines sets uses = map (shared_line sets) uses

-- how many of these uses are of a program and hit in a cache of so many ways that has seen some earlier ones of all programs
abbrev pub shared_hits_after : ℕ → ℕ → ℕ → List ProgramUse → List ProgramUse → ℕ
shared_hits_after sets ways program earlier [] = 0
shared_hits_after sets ways program earlier (u ∷ uses) =
    one_if ((u.program == program) && is_set_hit sets ways (shared_lines sets earlier) (shared_line sets u)) + shared_hits_after sets ways program (earlier ++ u ∷ []) uses

-- how many uses of a program hit in a cache that all share, and that is empty at first
abbrev pub shared_hits_of : ℕ → ℕ → ℕ → List ProgramUse → ℕ
shared_hits_of sets ways program uses = shared_hits_after sets ways program [] uses

-- how many miss
abbrev pub shared_misses_of : ℕ → ℕ → ℕ → List ProgramUse → ℕ
shared_misses_of sets ways program uses = length (lines_of program uses) - shared_hits_of sets ways program uses
