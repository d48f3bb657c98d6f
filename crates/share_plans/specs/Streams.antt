-- What the text of a stream of several programs says: the uses of all its turns, or its first line that is none of a stream.
use Rattle.std.specs.Prelude.{ℕ, ◌+◌, nat_lt, if◌then◌else◌, List, [], ◌∷◌, ◌++◌, codes, length, map, Option, Some, None, Result, Ok, Err}
use Rattle.std.specs.Option.{option_and_then}
use Rattle.std.specs.Str.Lines.{lines}
use Rattle.line_words.specs.Lines.{words}
use Rattle.num_text.specs.Numbers.{below, dec_of}
use Rattle.rc_base.specs.Texts.{is_text}
use Rattle.lackey_text.specs.declared.line.LackeyLine.{LackeyLine}
use Rattle.lackey_text.specs.declared.line.LackeyLine.TheVariants.{Skip, Use}
use Rattle.lackey_text.specs.declared.uses.LineUse.{LineUse}
use Rattle.lackey_text.specs.Lines.{line_of}
use Rattle.lackey_text.specs.Uses.{uses_of}
use Rattle.way_curve.specs.declared.limits.TheConstants.{MOST_LINE_BYTES}
use Rattle.share_plans.specs.declared.program_use.ProgramUse.{ProgramUse}
use Rattle.share_plans.specs.declared.step.Step.{Step}

-- ---- a line

-- a line `turn K` begins a turn of program K, one of so many that are numbered from 0; None where it is no such line
abbrev pub turn_of : ℕ → List (List ℕ) → Option ℕ
turn_of programs (word ∷ number ∷ []) = if is_text word (codes "turn") then below programs (dec_of number) else None
turn_of programs words = None

-- what a line of a trace says in a turn; before the first turn nothing may be used, since it would be of no program
abbrev pub said_in : Option ℕ → LackeyLine → Option Step
said_in (Some program) said = Some (record { turn = Some program; said = said })
said_in None Skip = Some (record { turn = None; said = Skip })
said_in None (Use kind addr size) = None

-- what a line says in a turn, by the turn that it begins, if it begins one
abbrev pub step_by : Option ℕ → Option ℕ → List ℕ → Option Step
step_by (Some program) turn line = Some (record { turn = Some program; said = Skip })
step_by None turn line = option_and_then (said_in turn) (line_of line)

-- what a line says in a turn; None where it is too long, or no turn begins by it and it is none of a trace
unfoldable pub step_of : ℕ → Option ℕ → List ℕ → Option Step
step_of programs turn line = if nat_lt MOST_LINE_BYTES (length line) then None else step_by (turn_of programs (words line)) turn line

-- ---- the lines

-- the uses of a program, in order
abbrev pub uses_by : Option ℕ → List LineUse → List ProgramUse
uses_by None uses = []
uses_by (Some program) uses = map (λ (u : LineUse). record { program = program; line = u.line; code = u.code }) uses

-- the uses that a line says
abbrev pub uses_in : Step → List ProgramUse
uses_in step = uses_by step.turn (uses_of step.said)

-- whose turn it is after a line
abbrev pub turn_after : Option ℕ → Option Step → Option ℕ
turn_after turn None = turn
turn_after turn (Some step) = step.turn

-- these uses, and then those of later lines, unless one of them is bad
abbrev pub uses_before : List ProgramUse → Result (List ProgramUse) ℕ → Result (List ProgramUse) ℕ
uses_before uses (Ok later) = Ok (uses ++ later)
uses_before uses (Err bad) = Err bad

-- the uses that a line says, and then those of later lines; n lines stand before it
abbrev pub uses_with : ℕ → Option Step → Result (List ProgramUse) ℕ → Result (List ProgramUse) ℕ
uses_with n None later = Err (n + 1)
uses_with n (Some step) later = uses_before (uses_in step) later

-- the uses of lines that n others stand before, in the turn that those leave, or the number of the first that is none of a stream,
-- counted from 1
unfoldable pub uses_from : ℕ → ℕ → Option ℕ → List (List ℕ) → Result (List ProgramUse) ℕ
uses_from programs n turn [] = Ok []
uses_from programs n turn (line ∷ later) =
    uses_with n (step_of programs turn line) (uses_from programs (n + 1) (turn_after turn (step_of programs turn line)) later)

-- The uses that the text of a stream of so many programs says, in order, or the number of its first line that is none of a stream. Lines
-- end with a newline, before which a carriage return is dropped; the last line may lack it.
abbrev pub stream_of : ℕ → List ℕ → Result (List ProgramUse) ℕ
stream_of programs text = uses_from programs 0 None (lines text)

-- (For proofs.) whose turn it is after lines
unfoldable pub turn_behind : ℕ → Option ℕ → List (List ℕ) → Option ℕ
turn_behind programs turn [] = turn
turn_behind programs turn (line ∷ later) = turn_behind programs (turn_after turn (step_of programs turn line)) later
