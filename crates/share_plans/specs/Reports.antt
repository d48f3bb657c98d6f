-- What is reported of a stream of several programs.
use Rattle.std.specs.Prelude.{◌≡◌, ℕ, ◌+◌, ◌-◌, Bool, true, false, sum, List, [], ◌∷◌, ◌++◌, codes, decimal, get_or, length, Option, Some, None, IfSome, Ok}
use Rattle.std.specs.List.{flat_map, range_with_len}
use Rattle.way_curve.specs.CurveTexts.{ways_line}
use Rattle.share_plans.specs.declared.demand.Demand.{Demand}
use Rattle.share_plans.specs.declared.goal.Goal.{Goal}
use Rattle.share_plans.specs.declared.goal.Goal.TheVariants.{Misses, Ratio}
use Rattle.share_plans.specs.declared.program.Program.{Program}
use Rattle.share_plans.specs.declared.program_use.ProgramUse.{ProgramUse}
use Rattle.share_plans.specs.declared.score.Score.{Score}
use Rattle.way_curve.specs.declared.first_levels.LevelShapes.{LevelShapes}
use Rattle.share_plans.specs.Divisions.{IsBestDivision, IsDivision, misses_with}
use Rattle.share_plans.specs.LeftUses.{left_uses}
use Rattle.share_plans.specs.Scores.{is_less, score_of}
use Rattle.share_plans.specs.Sharing.{lines_of, misses_by, shared_misses_of}
use Rattle.share_plans.specs.Streams.{stream_of}

-- ---- the numbers

-- what each program, from program k on, asks of a division, and what it would miss of these uses with each number of ways
abbrev pub demands_of : ℕ → ℕ → List Program → List ProgramUse → List Demand
demands_of sets k [] uses = []
demands_of sets k (p ∷ programs) uses = record { weight = p.weight; least = p.least; misses = misses_by sets (lines_of k uses) } ∷ demands_of sets (k + 1) programs uses

-- what each program, from program k on, would miss of these uses in a cache of so many ways that all share
abbrev pub shared_of : ℕ → ℕ → ℕ → List Program → List ProgramUse → List ℕ
shared_of sets ways k [] uses = []
shared_of sets ways k (p ∷ programs) uses = shared_misses_of sets ways k uses ∷ shared_of sets ways (k + 1) programs uses

-- ---- the text

-- the line of one number of ways, by the misses with each: with no ways all uses miss
abbrev pub row_line : List ℕ → ℕ → List ℕ
row_line misses ways = ways_line ways (get_or misses 0 0) (get_or misses 0 0 - get_or misses ways 0)

-- `program NAME:`, and a line for each number of ways from 1 on, up to this one
abbrev pub curve_text : ℕ → Program → Demand → List ℕ
curve_text ways p d = (codes "program " ++ p.name ++ codes ":\n") ++ flat_map (row_line d.misses) (range_with_len 1 ways)

-- the same of each program
abbrev pub curve_texts : ℕ → List Program → List Demand → List ℕ
curve_texts ways [] demands = []
curve_texts ways (p ∷ programs) [] = []
curve_texts ways (p ∷ programs) (d ∷ demands) = curve_text ways p d ++ curve_texts ways programs demands

-- `divided NAME: ways C misses N` of each program
abbrev pub divided_lines : List Program → List ℕ → List ℕ → List ℕ
divided_lines [] counts misses = []
divided_lines (p ∷ programs) [] misses = []
divided_lines (p ∷ programs) (count ∷ counts) [] = []
divided_lines (p ∷ programs) (count ∷ counts) (n ∷ misses) =
    (codes "divided " ++ p.name ++ (codes ": ways " ++ decimal count) ++ (codes " misses " ++ decimal n ++ codes "\n")) ++ divided_lines programs counts misses

-- `shared NAME: misses N` of each program
abbrev pub shared_lines_of : List Program → List ℕ → List ℕ
shared_lines_of [] misses = []
shared_lines_of (p ∷ programs) [] = []
shared_lines_of (p ∷ programs) (n ∷ misses) = (codes "shared " ++ p.name ++ (codes ": misses " ++ decimal n ++ codes "\n")) ++ shared_lines_of programs misses

-- the end of a line that says what a goal is reached by: `: weighted misses N` or `: worst ratio N of M`
abbrev pub score_told : Goal → Score → List ℕ
score_told Misses s = codes ": weighted misses " ++ decimal s.part ++ codes "\n"
score_told Ratio s = (codes ": worst ratio " ++ decimal s.part) ++ (codes " of " ++ decimal s.whole ++ codes "\n")

-- the lines of what all programs miss: `WHAT: misses N`, and what the goal is reached by
abbrev pub total_lines : Goal → List ℕ → List Demand → List ℕ → List ℕ
total_lines goal what demands misses = (what ++ (codes ": misses " ++ decimal (sum misses) ++ codes "\n")) ++ (what ++ score_told goal (score_of goal demands misses))

-- whether to divide: only if that is better for the goal than to share
abbrev pub verdict_line : Bool → List ℕ
verdict_line true = codes "divide: sharing is worse\n"
verdict_line false = codes "do not divide: sharing is no worse\n"

-- what all programs miss if the ways are divided, and whether that is better than to share
abbrev pub divided_text : Goal → List Program → List Demand → List ℕ → Option (List ℕ) → List ℕ
divided_text goal programs demands shared None = codes "divided: the ways do not suffice\n"
divided_text goal programs demands shared (Some counts) =
    divided_lines programs counts (misses_with demands counts) ++ total_lines goal (codes "divided") demands (misses_with demands counts)
    ++ verdict_line (is_less (score_of goal demands (misses_with demands counts)) (score_of goal demands shared))

-- The whole report: the curve of each program, what all miss if they share the ways, and what they miss if those are divided.
abbrev pub share_text : Goal → ℕ → List Program → List Demand → List ℕ → Option (List ℕ) → List ℕ
share_text goal ways programs demands shared counts =
    curve_texts ways programs demands
    ++ (shared_lines_of programs shared ++ total_lines goal (codes "shared") demands shared)
    ++ divided_text goal programs demands shared counts

-- ---- the promise

-- The text is the report of these uses of programs for a cache of so many sets and ways: with a division than which no other is better,
-- or with none if there is none. Where levels stand before the curves, the uses are those that the levels leave.
pub record IsShareReport (goal : Goal) (sets ways : ℕ) (programs : List Program) (uses : List ProgramUse) (text : List ℕ) : Type 0 where
  pub counts : Option (List ℕ)
  pub best : IfSome counts (IsBestDivision goal ways (demands_of sets 0 programs uses))
  pub none : counts ≡ None → (others : List ℕ) → IsDivision ways (demands_of sets 0 programs uses) others → ⊥
  pub report : text ≡ share_text goal ways programs (demands_of sets 0 programs uses) (shared_of sets ways 0 programs uses) counts

-- The bytes are a stream of so many programs, and the text is the report of what the levels of each program leave of the stream's uses.
-- So its accesses, hits and misses are those of the uses that are left.
pub record ReportsShares (goal : Goal) (levels : LevelShapes) (sets ways : ℕ) (programs : List Program) (bytes text : List ℕ) : Type 0 where
  pub uses : List ProgramUse
  pub stream : stream_of (length programs) bytes ≡ Ok uses
  pub shares : IsShareReport goal sets ways programs (left_uses levels uses) text
