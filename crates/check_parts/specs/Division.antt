-- Where an input is divided into a script and journals: at its first line `journal 1`.
use Rattle.std.specs.Prelude.{ℕ, ◌+◌, if◌then◌else◌, List, [], ◌∷◌, length, take, drop, Option, Some, None}
use Rattle.journal_text.specs.Lines.{first_line}
use Rattle.journal_text.specs.Readings.{parts_of}
use Rattle.rc_base.specs.Texts.{is_text}
use Rattle.check_parts.specs.declared.division.Division.{Division}

-- what stands before the line after this one, with the newline between them
abbrev pub after_line : Division → List ℕ → Division
after_line before line = record { lines = before.lines + 1; bytes = before.bytes + length line + 1 }

-- what stands before the first of these lines that is that of journals, where this stands before them all
unfoldable pub division_from : Division → List (List ℕ) → Option Division
division_from before [] = None
division_from before (line ∷ lines) = if is_text line first_line then Some before else division_from (after_line before line) lines

-- nothing
abbrev pub nothing_before : Division
nothing_before = record { lines = 0; bytes = 0 }

-- What stands before the journals of an input, and None where it has no line of journals. The line is compared byte by byte, and the
-- last line of an input may lack its newline.
abbrev pub division_of : List ℕ → Option Division
division_of bytes = division_from nothing_before (parts_of bytes)

-- the bytes of the script: all of them, where there are no journals
abbrev pub script_part : Option Division → List ℕ → List ℕ
script_part None bytes = bytes
script_part (Some division) bytes = take division.bytes bytes

-- the bytes of the journals
abbrev pub journal_part : Division → List ℕ → List ℕ
journal_part division bytes = drop division.bytes bytes
