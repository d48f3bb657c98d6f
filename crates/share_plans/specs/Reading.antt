-- What was read of the text of a stream that comes in pieces.
-- (For functions and proofs: no promise of the program stands on it.)
use Rattle.std.specs.Prelude.{◌≡◌, ℕ, ◌+◌, ◌*◌, ◌<◌, ◌≤◌, Bool, false, true, List, ◌++◌, length, Ok, Err, Option, None, IfSome}
use Rattle.way_curve.specs.Reading.{BeginsWith, IsOpen}
use Rattle.way_curve.specs.declared.limits.TheConstants.{MOST_LINE_BYTES}
use Rattle.share_plans.specs.Filtering.{FilteredValue, Filtering, HaveFiltered}
use Rattle.share_plans.specs.LeftUses.{left_uses}
use Rattle.share_plans.specs.Played.{HavePlayed, PlayedValue}
use Rattle.share_plans.specs.Streams.{stream_of, turn_behind, uses_from}
use Rattle.share_plans.specs.declared.program_use.ProgramUse.{ProgramUse}
use Rattle.share_plans.specs.declared.stream_limits.TheConstants.{MOST_STREAM_BYTES}

-- what contracts see: how many bytes and whole lines there are, the bytes after them, whose turn it is, whether the next line is none
-- of a stream, and what was played of the whole lines behind the levels
pub record StreamValue : Type 0 where
  pub bytes : ℕ
  pub ended : ℕ
  pub rest : List ℕ
  pub turn : Option ℕ
  pub is_bad : Bool
  pub played : FilteredValue

-- Each whole line of the text is one of a stream, and what the levels leave of the uses that they say was played.
pub record IsGood (filtering : Filtering) (s : StreamValue) (text : List ℕ) : Type 0 where
  pub whole : List (List ℕ)
  pub uses : List ProgramUse
  pub begins : BeginsWith text whole s.rest
  pub is_open : IsOpen s.rest
  pub said : uses_from filtering.asked.programs 0 None whole ≡ Ok uses
  pub turn : s.turn ≡ turn_behind filtering.asked.programs None whole
  pub count : s.ended ≡ length whole
  pub programs : length s.played.played.programs ≡ filtering.asked.programs
  pub played : HaveFiltered filtering s.played uses

-- Whatever follows the text, the line after those that are played is none of a stream.
abbrev pub IsBad : Filtering → StreamValue → List ℕ → Type 0
IsBad filtering s text = (more : List ℕ) → stream_of filtering.asked.programs (text ++ more) ≡ Err (s.ended + 1)

-- the text is read, and all its whole lines are good, or one is bad
abbrev pub ReadsAs : Bool → Filtering → StreamValue → List ℕ → Type 0
ReadsAs true filtering s text = IsBad filtering s text
ReadsAs false filtering s text = IsGood filtering s text

-- the text is read, for so many programs, these levels of each, and this cache
abbrev pub HasRead : Filtering → StreamValue → List ℕ → Type 0
HasRead filtering s text = ReadsAs s.is_bad filtering s text

-- Whatever text was read, it is now that and this one.
abbrev pub ReadsOn : StreamValue → StreamValue → List ℕ → Type 0
ReadsOn old new more = (filtering : Filtering) (text : List ℕ) → HasRead filtering old text → HasRead filtering new (text ++ more)

-- The text is a stream, and what the levels leave of its uses was played.
pub record AreOf (filtering : Filtering) (played : PlayedValue) (text : List ℕ) : Type 0 where
  pub uses : List ProgramUse
  pub said : stream_of filtering.asked.programs text ≡ Ok uses
  pub have : HavePlayed filtering.asked played (left_uses filtering.levels uses)

-- a stream's parts: few bytes, no more whole lines than these, at most 65 uses a byte, room for the longest line and a carriage return,
-- and a turn of one of the programs
pub record IsRoomy (bytes ended : ℕ) (rest : List ℕ) (capacity : ℕ) (turn : Option ℕ) (played : PlayedValue) : Type 0 where
  pub few_bytes : bytes ≤ MOST_STREAM_BYTES
  pub few_lines : ended ≤ bytes
  pub few_uses : played.shared.uses + 65 * length rest ≤ 65 * bytes
  pub short : length rest ≤ MOST_LINE_BYTES + 1
  pub room : MOST_LINE_BYTES + 1 ≤ capacity
  pub known : IfSome turn (λ program. program < length played.programs)
