-- The report of the uses of a trace, and the line that refuses one.
use Rattle.std.specs.Prelude.{ℕ, ◌-◌, ◌*◌, ◌/◌, Bool, true, false, nat_lt, List, [], ◌∷◌, ◌++◌, length, codes, decimal, Option, Some, None}
use Rattle.std.specs.List.{flat_map, range_with_len}
use Rattle.lackey_text.specs.declared.uses.LineUse.{LineUse}
use Rattle.way_curve.specs.Curves.{set_hits_of}
use Rattle.way_curve.specs.Counting.{all_lines, code_lines, data_lines}
use Rattle.way_curve.specs.FirstLevels.{left_by}
use Rattle.way_curve.specs.FirstUses.{first_uses_if}
use Rattle.way_curve.specs.Samples.{sample_sets, sampled, scale_of}
use Rattle.way_curve.specs.declared.first_level.LevelShape.{LevelShape}
use Rattle.way_curve.specs.declared.first_levels.LevelShapes.{LevelShapes}

-- the line of one number of ways, by how many uses there are and how many of them hit: `ways W: accesses A hits H misses M`
unfoldable pub ways_line : ℕ → ℕ → ℕ → List ℕ
ways_line ways uses hits =
    (codes "ways " ++ decimal ways) ++ (codes ": accesses " ++ decimal uses) ++ (codes " hits " ++ decimal hits) ++ (codes " misses " ++ decimal (uses - hits)) ++ 10 ∷ []

-- The estimate of the misses of all lines by those of a sample of one line of so many, that many times as many: ` estimate E`. Nothing
-- where none is asked for.
abbrev pub estimate_text : Option ℕ → ℕ → List ℕ
estimate_text None misses = []
estimate_text (Some one_of) misses = codes " estimate " ++ decimal (one_of * misses)

-- the line of one number of ways with this last part
abbrev pub line_with : List ℕ → ℕ → ℕ → ℕ → List ℕ
line_with last ways uses hits =
    (codes "ways " ++ decimal ways) ++ (codes ": accesses " ++ decimal uses) ++ (codes " hits " ++ decimal hits) ++ (codes " misses " ++ decimal (uses - hits)) ++ last ++ 10 ∷ []

-- the line of one number of ways with the estimate, if one is asked for: `ways W: accesses A hits H misses M estimate E`
unfoldable pub counts_line : Option ℕ → ℕ → ℕ → ℕ → List ℕ
counts_line scale ways uses hits = line_with (estimate_text scale (uses - hits)) ways uses hits

-- the line of one number of ways, for uses of these lines in caches of so many sets
abbrev pub line_of_ways : Option ℕ → ℕ → List ℕ → ℕ → List ℕ
line_of_ways scale sets lines ways = counts_line scale ways (length lines) (set_hits_of sets ways lines)

-- the lines of each number of ways from 1 on, up to this one
abbrev pub curve_lines : Option ℕ → ℕ → ℕ → List ℕ → List ℕ
curve_lines scale sets ways lines = flat_map (line_of_ways scale sets lines) (range_with_len 1 ways)

-- the line that stands where most misses are first uses, so that more ways could change little
abbrev pub hint_text : Bool → List ℕ
hint_text false = []
hint_text true = codes "hint: most misses with one way are first uses" ++ 10 ∷ []

-- the line of so many first uses, and the hint, if they are more than half of so many misses: `first uses N`
abbrev pub first_text : ℕ → ℕ → List ℕ
first_text first misses = (codes "first uses " ++ decimal first ++ 10 ∷ []) ++ hint_text (nat_lt (misses / 2) first)

-- the lines of the first uses of these lines, by the misses in caches of one way; nothing where they are not asked for
abbrev pub first_lines : Option ℕ → ℕ → List ℕ → List ℕ
first_lines None sets lines = []
first_lines (Some first) sets lines = first_text first (length lines - set_hits_of sets 1 lines)

-- a part of the report: its name on a line, the first uses, if they are asked for, and then the lines of each number of ways
abbrev pub part_text : Option ℕ → Option ℕ → ℕ → ℕ → List ℕ → List ℕ → List ℕ
part_text scale first sets ways name lines = name ++ first_lines first sets lines ++ curve_lines scale sets ways lines

-- The report of these uses for caches of so many sets, with up to so many ways: all of them, those of data, and those of code; with
-- estimates by the misses of one line of so many, and with the first uses among them, if these are asked for.
abbrev pub report_of : Option ℕ → Bool → ℕ → ℕ → List LineUse → List ℕ
report_of scale has_first sets ways uses =
    part_text scale (first_uses_if has_first (all_lines uses)) sets ways (codes "data and code:" ++ 10 ∷ []) (all_lines uses) ++
    part_text scale (first_uses_if has_first (data_lines uses)) sets ways (codes "data:" ++ 10 ∷ []) (data_lines uses) ++
    part_text scale (first_uses_if has_first (code_lines uses)) sets ways (codes "code:" ++ 10 ∷ []) (code_lines uses)

-- What stands above the report where its counts are of a sample, by the sample and the sets of its caches: `sample: one of N lines, S sets`.
abbrev pub sample_text : Option ℕ → ℕ → List ℕ
sample_text None sets = []
sample_text (Some one_of) sets = (codes "sample: one of " ++ decimal one_of) ++ (codes " lines, " ++ decimal sets) ++ (codes " sets" ++ 10 ∷ [])

-- the line of a level, if there is one, after its name: `NAME: S sets of W ways`
abbrev pub level_text : List ℕ → Option LevelShape → List ℕ
level_text name None = []
level_text name (Some level) = (name ++ decimal level.sets) ++ (codes " sets of " ++ decimal level.ways) ++ (codes " ways" ++ 10 ∷ [])

-- What stands above the report where uses are counted that levels leave: a line for each of them.
abbrev pub levels_text : LevelShapes → List ℕ
levels_text levels = level_text (codes "l1: ") levels.l1 ++ level_text (codes "l2: ") levels.l2

-- The report of those uses that the levels leave, if there are any, for a cache of so many sets, with up to so many ways: of all of them,
-- or of a sample of one line of so many; lines above say which levels and which sample; with the misses of the sample scaled, and with
-- first uses, if these are asked for.
abbrev pub curves_text : LevelShapes → Option ℕ → Bool → Bool → ℕ → ℕ → List LineUse → List ℕ
curves_text levels one_of is_scaled has_first sets ways uses =
    levels_text levels ++ sample_text one_of (sample_sets one_of sets) ++ report_of (scale_of is_scaled one_of) has_first (sample_sets one_of sets) ways (sampled one_of (left_by levels uses))

-- The line that refuses a trace by the number of its first bad line: `line N: bad trace line`.
abbrev pub bad_line_text : ℕ → List ℕ
bad_line_text line = codes "line " ++ decimal line ++ (codes ": bad trace line" ++ 10 ∷ [])
