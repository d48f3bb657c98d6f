-- What was read of the text of a trace that comes in pieces.
-- (For functions and proofs: no promise of the program stands on it.)
use Rattle.std.specs.Prelude.{◌≡◌, ℕ, ◌+◌, ◌*◌, ◌≤◌, Bool, false, true, ◌==◌, List, ◌++◌, length, Ok, Err, All}
use Rattle.std.specs.Str.Lines.{lines}
use Rattle.lackey_text.specs.declared.uses.LineUse.{LineUse}
use Rattle.way_curve.specs.Filtering.{FilteredValue, Filtering, HaveFiltered}
use Rattle.way_curve.specs.declared.limits.TheConstants.{MOST_LINE_BYTES, MOST_TRACE_BYTES}
use Rattle.way_curve.specs.TraceTexts.{trace_of, uses_from}

-- what contracts see: how many bytes and whole lines there are, the bytes after them, whether the next line is none of a trace, and
-- the curves of the whole lines
pub record TraceValue : Type 0 where
  pub bytes : ℕ
  pub ended : ℕ
  pub rest : List ℕ
  pub is_bad : Bool
  pub curves : FilteredValue

-- Whatever follows a text, its lines are these, and then those of the rest and what follows.
abbrev pub BeginsWith : List ℕ → List (List ℕ) → List ℕ → Type 0
BeginsWith text whole rest = (more : List ℕ) → lines (text ++ more) ≡ whole ++ lines (rest ++ more)

-- no byte is a newline
abbrev pub IsOpen : List ℕ → Type 0
IsOpen rest = All (λ (b : ℕ). (b == 10) ≡ false) rest

-- Each whole line of the text is one of a trace, and the curves have counted what they say.
pub record IsGood (filtering : Filtering) (t : TraceValue) (text : List ℕ) : Type 0 where
  pub whole : List (List ℕ)
  pub uses : List LineUse
  pub begins : BeginsWith text whole t.rest
  pub is_open : IsOpen t.rest
  pub said : uses_from 0 whole ≡ Ok uses
  pub count : t.ended ≡ length whole
  pub counted : HaveFiltered filtering t.curves uses

-- Whatever follows the text, the line after those that are counted is none of a trace.
abbrev pub IsBad : TraceValue → List ℕ → Type 0
IsBad t text = (more : List ℕ) → trace_of (text ++ more) ≡ Err (t.ended + 1)

-- the text is read, and all its whole lines are good, or one is bad
abbrev pub ReadsAs : Bool → Filtering → TraceValue → List ℕ → Type 0
ReadsAs true filtering t text = IsBad t text
ReadsAs false filtering t text = IsGood filtering t text

-- The text is read, behind these levels, for caches of so many sets and this sample, if one is taken.
abbrev pub HasRead : Filtering → TraceValue → List ℕ → Type 0
HasRead filtering t text = ReadsAs t.is_bad filtering t text

-- Whatever text was read, it is now that and this one.
abbrev pub ReadsOn : TraceValue → TraceValue → List ℕ → Type 0
ReadsOn old new more = (filtering : Filtering) (text : List ℕ) → HasRead filtering old text → HasRead filtering new (text ++ more)

-- The text is a trace, and the curves have counted its uses, or those that the levels and the sample leave of them.
pub record AreOf (filtering : Filtering) (curves : FilteredValue) (text : List ℕ) : Type 0 where
  pub uses : List LineUse
  pub said : trace_of text ≡ Ok uses
  pub counted : HaveFiltered filtering curves uses

-- a trace's parts: few bytes, no more whole lines than these, at most 65 uses a byte, and room for the longest line and a carriage
-- return
pub record IsRoomy (bytes ended : ℕ) (rest : List ℕ) (capacity : ℕ) (curves : FilteredValue) : Type 0 where
  pub few_bytes : bytes ≤ MOST_TRACE_BYTES
  pub few_lines : ended ≤ bytes
  pub few_uses : curves.sampled.curves.uses + 65 * length rest ≤ 65 * bytes
  pub short : length rest ≤ MOST_LINE_BYTES + 1
  pub room : MOST_LINE_BYTES + 1 ≤ capacity
