-- Which lines the bytes of a trace were joined to.
-- (For functions and proofs: no promise of the program stands on it.)
use Rattle.std.specs.Prelude.{◌≡◌, ℕ, ◌+◌, ◌≤◌, List, [], ◌∷◌, ◌++◌, length, Ok}
use Rattle.lackey_text.specs.Lines.{IsInMemory}
use Rattle.lackey_text.specs.Uses.{uses_of}
use Rattle.lackey_text.specs.declared.uses.LineUse.{LineUse}
use Rattle.way_curve.specs.Reading.{BeginsWith, IsOpen}
use Rattle.way_curve.specs.TraceTexts.{trace_of, uses_from}
use Rattle.way_curve.specs.FilterTexts.{IsBadAt}
use Rattle.way_curve.specs.declared.limits.TheConstants.{MOST_LINE_BYTES, MOST_TRACE_BYTES}
use Rattle.way_curve.specs.declared.line_joiner.Joined.{Joined}
use Rattle.way_curve.specs.declared.line_joiner.Joined.TheVariants.{Bad, Ended, Open}

-- what contracts see: how many bytes and whole lines there are, and the bytes after them
pub record JoinerValue : Type 0 where
  pub bytes : ℕ
  pub ended : ℕ
  pub rest : List ℕ

-- The text was joined: each of its whole lines is one of a trace, and together they say these uses.
pub record Joins (j : JoinerValue) (text : List ℕ) (uses : List LineUse) : Type 0 where
  pub whole : List (List ℕ)
  pub begins : BeginsWith text whole j.rest
  pub is_open : IsOpen j.rest
  pub said : uses_from 0 whole ≡ Ok uses
  pub count : j.ended ≡ length whole

-- after a byte of this text: no line has ended since those uses, or one that says more, or a line is bad, whatever follows
abbrev pub SaysLine : JoinerValue → ℕ → List ℕ → List LineUse → Joined → Type 0
SaysLine new before text uses Open = Joins new text uses
SaysLine new before text uses (Ended said) = Joins new text (uses ++ uses_of said)
SaysLine new before text uses Bad = (more : List ℕ) → IsBadAt (text ++ more) before uses

-- Whatever text was joined, it is now that and this byte; or a line is bad, and as many have ended as before.
abbrev pub JoinsByte : JoinerValue → JoinerValue → ℕ → Joined → Type 0
JoinsByte old new byte result = (text : List ℕ) (uses : List LineUse) → Joins old text uses → SaysLine new old.ended (text ++ byte ∷ []) uses result

-- at the end of the text
abbrev pub EndsText : JoinerValue → List ℕ → List LineUse → Joined → Type 0
EndsText j text uses Open = trace_of text ≡ Ok uses
EndsText j text uses (Ended said) = trace_of text ≡ Ok (uses ++ uses_of said)
EndsText j text uses Bad = IsBadAt text j.ended uses

-- a line that ended uses memory
abbrev pub IfSaid : Joined → Type 0
IfSaid (Ended said) = IsInMemory said
IfSaid joined = Unit {0}

-- a joiner's parts: few bytes, no more whole lines than these, and room for the longest line and a carriage return
pub record IsLineRoomy (bytes ended : ℕ) (rest : List ℕ) (capacity : ℕ) : Type 0 where
  pub few_bytes : bytes ≤ MOST_TRACE_BYTES
  pub few_lines : ended ≤ bytes
  pub short : length rest ≤ MOST_LINE_BYTES + 1
  pub room : MOST_LINE_BYTES + 1 ≤ capacity
