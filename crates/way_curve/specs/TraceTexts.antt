-- What the text of a trace says: the uses of all its lines, or the first line that is none of a trace.
use Rattle.std.specs.Prelude.{ℕ, ◌+◌, nat_lt, if◌then◌else◌, List, [], ◌∷◌, ◌++◌, length, Option, Some, None, Result, Ok, Err}
use Rattle.std.specs.Str.Lines.{lines}
use Rattle.lackey_text.specs.declared.line.LackeyLine.{LackeyLine}
use Rattle.lackey_text.specs.declared.uses.LineUse.{LineUse}
use Rattle.lackey_text.specs.Lines.{line_of}
use Rattle.lackey_text.specs.Uses.{uses_of}
use Rattle.way_curve.specs.declared.limits.TheConstants.{MOST_LINE_BYTES}

-- what a line says; None where it is too long or none of a trace
unfoldable pub said_of : List ℕ → Option LackeyLine
said_of line = if nat_lt MOST_LINE_BYTES (length line) then None else line_of line

-- these uses, and then those of later lines, unless one of them is bad
abbrev pub uses_before : List LineUse → Result (List LineUse) ℕ → Result (List LineUse) ℕ
uses_before uses (Ok later) = Ok (uses ++ later)
uses_before uses (Err bad) = Err bad

-- the uses that a line says, and then those of later lines; n lines stand before it
abbrev pub uses_with : ℕ → Option LackeyLine → Result (List LineUse) ℕ → Result (List LineUse) ℕ
uses_with n None later = Err (n + 1)
uses_with n (Some said) later = uses_before (uses_of said) later

-- the uses of lines that n others stand before, in order, or the number of the first that is none of a trace, counted from 1
unfoldable pub uses_from : ℕ → List (List ℕ) → Result (List LineUse) ℕ
uses_from n [] = Ok []
uses_from n (line ∷ later) = uses_with n (said_of line) (uses_from (n + 1) later)

-- The uses that the text of a trace says, in order, or the number of its first line that is none of a trace. Lines end with a
-- newline, before which a carriage return is dropped; the last line may lack it.
abbrev pub trace_of : List ℕ → Result (List LineUse) ℕ
trace_of text = uses_from 0 (lines text)
