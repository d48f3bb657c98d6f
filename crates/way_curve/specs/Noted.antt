-- Which different lines were noted.
-- (For functions and proofs: no promise of the program stands on it.)
use Rattle.std.specs.Prelude.{◌≡◌, ℕ, Bool, false, List, ◌++◌, length}
use Rattle.lackey_text.specs.declared.uses.LineUse.{LineUse}
use Rattle.way_curve.specs.Counting.{all_lines, code_lines, data_lines}
use Rattle.way_curve.specs.FirstUses.{first_uses_of, is_line_of}

-- what contracts see: the lines that were noted, and whether memory ran out for one
pub record NotedLines : Type 0 where
  pub lines : List ℕ
  pub is_out : Bool

-- Unless memory ran out, these are the different lines of these uses.
pub record HaveNoted (noted : NotedLines) (lines : List ℕ) : Type 0 where
  pub count : noted.is_out ≡ false → length noted.lines ≡ first_uses_of lines
  pub same : noted.is_out ≡ false → (x : ℕ) → is_line_of noted.lines x ≡ is_line_of lines x

-- Whatever uses were noted, those and these are now.
abbrev pub NoteLines : NotedLines → NotedLines → List ℕ → Type 0
NoteLines old new more = (lines : List ℕ) → HaveNoted old lines → HaveNoted new (lines ++ more)

-- what contracts see: the different lines of all uses, of those of data and of those of code
pub record NotedUses : Type 0 where
  pub of_all : NotedLines
  pub of_data : NotedLines
  pub of_code : NotedLines

-- These are the different lines of these uses.
pub record HaveNotedUses (noted : NotedUses) (uses : List LineUse) : Type 0 where
  pub of_all : HaveNoted noted.of_all (all_lines uses)
  pub of_data : HaveNoted noted.of_data (data_lines uses)
  pub of_code : HaveNoted noted.of_code (code_lines uses)

-- Whatever uses were noted, those and these are now.
abbrev pub NoteUses : NotedUses → NotedUses → List LineUse → Type 0
NoteUses old new more = (uses : List LineUse) → HaveNotedUses old uses → HaveNotedUses new (uses ++ more)
