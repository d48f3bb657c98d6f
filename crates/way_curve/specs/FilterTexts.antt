-- What levels leave of a trace, as the text of a trace.
use Rattle.std.specs.Prelude.{◌≡◌, ℕ, ◌+◌, ◌*◌, ◌<◌, if◌then◌else◌, List, [], ◌∷◌, ◌++◌, take, codes, Ok, Err, All}
use Rattle.std.specs.List.{flat_map}
use Rattle.std.specs.Str.Lines.{lines}
use Rattle.num_text.specs.Printed.{hexadecimal}
use Rattle.lackey_text.specs.declared.uses.LineUse.{LineUse}
use Rattle.way_curve.specs.CurveTexts.{bad_line_text}
use Rattle.way_curve.specs.FirstLevels.{left_by}
use Rattle.way_curve.specs.Reading.{BeginsWith, IsOpen}
use Rattle.way_curve.specs.TraceTexts.{trace_of, uses_from}
use Rattle.way_curve.specs.declared.first_levels.LevelShapes.{LevelShapes}

-- a use as a line of a trace: `I  ADDR,64` of code, and ` L ADDR,64` of data, where ADDR is the address of the line's first byte
unfoldable pub use_text : LineUse → List ℕ
use_text u = (if u.code then codes "I  " else codes " L ") ++ hexadecimal 0 (64 * u.line) ++ codes ",64" ++ 10 ∷ []

-- uses as lines of a trace, in order
abbrev pub uses_text : List LineUse → List ℕ
uses_text uses = flat_map use_text uses

-- the uses that levels leave, as a trace
abbrev pub filter_text : LevelShapes → List LineUse → List ℕ
filter_text levels uses = uses_text (left_by levels uses)

-- a line of this text, which so many lines stand before, is the first that is none of a trace; those lines say these uses
pub record IsBadAt (text : List ℕ) (before : ℕ) (uses : List LineUse) : Type 0 where
  pub bad : trace_of text ≡ Err (before + 1)
  pub front : uses_from 0 (take before (lines text)) ≡ Ok uses

-- these bytes are a trace, and the text is what the levels leave of it
pub record IsFiltered (levels : LevelShapes) (bytes text : List ℕ) : Type 0 where
  pub uses : List LineUse
  pub trace : trace_of bytes ≡ Ok uses
  pub told : text ≡ filter_text levels uses

-- a line of these bytes is none of a trace, and the text is what the levels leave of the lines before it, and then the line that tells it
pub record IsFilteredToBad (levels : LevelShapes) (bytes text : List ℕ) : Type 0 where
  pub before : ℕ
  pub uses : List LineUse
  pub is_bad : IsBadAt bytes before uses
  pub told : text ≡ filter_text levels uses ++ bad_line_text (before + 1)

-- Each line of these bytes that has ended is one of a trace, and the text is what the levels leave of these lines.
pub record IsFilteredSoFar (levels : LevelShapes) (bytes text : List ℕ) : Type 0 where
  pub whole : List (List ℕ)
  pub rest : List ℕ
  pub uses : List LineUse
  pub begins : BeginsWith bytes whole rest
  pub is_open : IsOpen rest
  pub said : uses_from 0 whole ≡ Ok uses
  pub told : text ≡ filter_text levels uses

-- (For proofs.) uses of memory, whose lines are below 2^42
abbrev pub AreInMemory : List LineUse → Type 0
AreInMemory uses = All (λ (u : LineUse). u.line < 4398046511104) uses

-- (For proofs.) what levels leave reads back as a trace of just these uses
abbrev pub FilteredReadsBack : Type 0
FilteredReadsBack = (levels : LevelShapes) (bytes : List ℕ) (uses : List LineUse) → trace_of bytes ≡ Ok uses → trace_of (filter_text levels uses) ≡ Ok (left_by levels uses)
