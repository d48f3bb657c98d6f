-- What the levels before the curves leave of the uses of several programs: each program has levels of its own.
use Rattle.std.specs.Prelude.{ℕ, ◌==◌, Bool, nat_lt, if◌then◌else◌, List, [], ◌∷◌, ◌++◌, length, map}
use Rattle.std.specs.List.{filter}
use Rattle.lackey_text.specs.declared.uses.LineUse.{LineUse}
use Rattle.way_curve.specs.FirstLevels.{left_by}
use Rattle.way_curve.specs.declared.first_levels.LevelShapes.{LevelShapes}
use Rattle.share_plans.specs.declared.program_use.ProgramUse.{ProgramUse}

-- the use of a line, whichever program it is of
abbrev pub line_use : ProgramUse → LineUse
line_use u = record { line = u.line; code = u.code }

-- the uses of one program, in order
abbrev pub own_uses : ℕ → List ProgramUse → List LineUse
own_uses program uses = map line_use (filter (λ (u : ProgramUse). u.program == program) uses)

-- whether levels that have seen some uses leave the next one: whether they leave one more with it
abbrev pub leave_next : LevelShapes → List LineUse → LineUse → Bool
leave_next levels earlier u = nat_lt (length (left_by levels earlier)) (length (left_by levels (earlier ++ u ∷ [])))

-- whether its program's own levels leave a use: of those before it they have seen the program's own
abbrev pub is_left : LevelShapes → List ProgramUse → ProgramUse → Bool
is_left levels earlier u = leave_next levels (own_uses u.program earlier) (line_use u)

-- what is left of uses that follow some earlier ones
abbrev pub left_uses_after : LevelShapes → List ProgramUse → List ProgramUse → List ProgramUse
left_uses_after levels earlier [] = []
left_uses_after levels earlier (u ∷ uses) = (if is_left levels earlier u then u ∷ [] else []) ++ left_uses_after levels (earlier ++ u ∷ []) uses

-- What is left of the uses of several programs, in order: those that miss in all levels of their own program, which no other program
-- uses. Where there is no level, that is all of them.
abbrev pub left_uses : LevelShapes → List ProgramUse → List ProgramUse
left_uses levels uses = left_uses_after levels [] uses
