-- The first line of a text, and the lines with which a text begins.
use Rattle.std.proofs.Common.{◌≡◌, ℕ, suc, ◌+◌, ◌-◌, ◌<◌, ◌≤◌, false, ◌==◌, List, [], ◌∷◌, ◌++◌, length, None, refl, sym, ap, ◌∙◌, arith, append_assoc, inl, inr, length-append, length-take}
use Rattle.std.specs.Prelude.{slice_index}
use Rattle.std.specs.List.{slice_split}
use Rattle.std.specs.Str.Lines.{lines, lines_of_parts, strip_carriage_return}
use Rattle.std.proofs.lemmas.Bool.{cases_Bool, eqb-true, lt-ltb, ne_eqb}
use Rattle.std.proofs.lemmas.List.{append-nil}
use Rattle.std.proofs.lemmas.List.Elements.{All-nil, All-push}
use Rattle.std.proofs.lemmas.List.Splits.{length-slice_split, slice_split_at, slice_split_none}
use Rattle.lists.proofs.Cuts.{lines_of_parts-cons}
use Rattle.way_curve.specs.Reading.{BeginsWith, IsOpen}
use Rattle.way_curve.specs.TraceTexts.{said_of}

-- a newline ends the first line
pub lines-newline : (rest more : List ℕ) → IsOpen rest → lines (rest ++ 10 ∷ more) ≡ strip_carriage_return rest ∷ lines more
lines-newline rest more is_open =
    ap lines_of_parts (slice_split_at (λ (b : ℕ). b == 10) rest 10 more is_open refl)
    ∙ lines_of_parts-cons rest (slice_split (λ (b : ℕ). b == 10) more) (omega (arith, length-slice_split (λ (b : ℕ). b == 10) more))

-- a last line without its newline
pub lines-last : (rest : List ℕ) → IsOpen rest → 0 < length rest → lines rest ≡ rest ∷ []
lines-last rest is_open some =
    ap lines_of_parts (slice_split_none (λ (b : ℕ). b == 10) rest is_open) ∙ (rw (ne_eqb (length rest) 0 (omega arith)) refl)

-- one byte more, which is no newline
pub IsOpen-more : (rest : List ℕ) (b : ℕ) → (b == 10) ≡ false → IsOpen rest → IsOpen (rest ++ b ∷ [])
IsOpen-more rest b other is_open = All-push (λ (x : ℕ). (x == 10) ≡ false) rest b is_open other

-- no byte
pub IsOpen-nil : IsOpen []
IsOpen-nil = All-nil (λ (x : ℕ). (x == 10) ≡ false)

-- what is dropped from a line is one byte at most
length-strip : (line : List ℕ) → length line ≤ suc (length (strip_carriage_return line))
length-strip line = elim (cases_Bool (slice_index line (length line - 1) == 13)) [
  | inl h ↦ rw h (omega (arith, length-take (length line - 1) line))
  | inr h ↦ rw h (omega arith)
]

-- the first line of a text that begins with these bytes
record IsFirst (rest text : List ℕ) : Type 0 where
  line : List ℕ
  later : List (List ℕ)
  first : lines text ≡ line ∷ later
  long : length rest ≤ suc (length line)

-- it is as long as those, but for a carriage return
first_line : (rest more : List ℕ) → IsOpen rest → 0 < length rest → IsFirst rest (rest ++ more)
first_line rest [] is_open some = record {
  line = rest;
  later = [];
  first = ap lines (append-nil rest) ∙ lines-last rest is_open some;
  long = omega arith;
}
first_line rest (b ∷ more) is_open some = elim (cases_Bool (b == 10)) [
  | inl h ↦ record {
    line = strip_carriage_return rest;
    later = lines more;
    first = ap (λ (c : ℕ). lines (rest ++ c ∷ more)) (eqb-true b 10 h) ∙ lines-newline rest more is_open;
    long = length-strip rest;
  }
  | inr h ↦
      let longer : length (rest ++ b ∷ []) ≡ length rest + 1 = length-append rest (b ∷ []) in
      let there : IsFirst (rest ++ b ∷ []) ((rest ++ b ∷ []) ++ more) = first_line (rest ++ b ∷ []) more (IsOpen-more rest b h is_open) (omega (arith, longer)) in
      record {
        line = there.line;
        later = there.later;
        first = ap lines (sym (append_assoc rest (b ∷ []) more)) ∙ there.first;
        long = omega (arith, longer, there.long);
      }
]

-- a line that is too long says nothing
said_of-long : (line : List ℕ) → 65536 < length line → said_of line ≡ None
unfolding said_of
said_of-long line long = rw (lt-ltb 65536 (length line) long) refl

-- the first line of a text that begins with too many bytes is bad
pub bad_first : (rest more : List ℕ) → IsOpen rest → 65537 < length rest → (line : List ℕ) × (later : List (List ℕ)) × (lines (rest ++ more) ≡ line ∷ later) × (said_of line ≡ None)
bad_first rest more is_open long =
    let first = first_line rest more is_open (omega arith) in
    (first.line, first.later, first.first, said_of-long first.line (omega (arith, first.long)))

module _ (text : List ℕ) (whole : List (List ℕ)) (rest : List ℕ) (begins : BeginsWith text whole rest) where
  -- one byte more
  pub BeginsWith-byte : (b : ℕ) → BeginsWith (text ++ b ∷ []) whole (rest ++ b ∷ [])
  BeginsWith-byte b = λ more. ap lines (append_assoc text (b ∷ []) more) ∙ (begins (b ∷ more) ∙ ap (λ (l : List ℕ). whole ++ lines l) (sym (append_assoc rest (b ∷ []) more)))

  -- a newline
  pub BeginsWith-newline : IsOpen rest → BeginsWith (text ++ 10 ∷ []) (whole ++ strip_carriage_return rest ∷ []) []
  BeginsWith-newline is_open = λ more.
      ap lines (append_assoc text (10 ∷ []) more) ∙ (begins (10 ∷ more)
      ∙ (ap (λ (l : List (List ℕ)). whole ++ l) (lines-newline rest more is_open) ∙ sym (append_assoc whole (strip_carriage_return rest ∷ []) (lines more))))

  -- nothing more
  pub BeginsWith-end : lines text ≡ whole ++ lines rest
  BeginsWith-end = ap lines (sym (append-nil text)) ∙ (begins [] ∙ ap (λ (l : List ℕ). whole ++ lines l) (append-nil rest))
