-- The first line of a text that begins with more bytes than a line may have.
use Rattle.std.proofs.Common.{◌≡◌, ℕ, suc, ◌+◌, ◌-◌, ◌<◌, ◌≤◌, ◌==◌, List, [], ◌∷◌, ◌++◌, length, Option, None, refl, sym, ap, ◌∙◌, arith, append_assoc, inl, inr, length-append, length-take}
use Rattle.std.specs.Prelude.{slice_index}
use Rattle.std.specs.Str.Lines.{lines, strip_carriage_return}
use Rattle.std.proofs.lemmas.Bool.{cases_Bool, eqb-true, lt-ltb}
use Rattle.std.proofs.lemmas.List.{append-nil}
use Rattle.way_curve.specs.Reading.{IsOpen}
use Rattle.way_curve.proofs.laws.FirstLines.{IsOpen-more, lines-last, lines-newline}
use Rattle.share_plans.specs.Streams.{step_of}

-- what is dropped from a line is one byte at most
length-strip : (line : List ℕ) → length line ≤ suc (length (strip_carriage_return line))
length-strip line = elim (cases_Bool (slice_index line (length line - 1) == 13)) [
  | inl h ↦ rw h (omega (arith, length-take (length line - 1) line))
  | inr h ↦ rw h (omega arith)
]

-- the first line of a text that begins with these bytes
record IsFirst (rest text : List ℕ) : Type 0 where
  line : List ℕ
  later : List (List ℕ)
  first : lines text ≡ line ∷ later
  long : length rest ≤ suc (length line)

-- it is as long as those, but for a carriage return
first_line : (rest more : List ℕ) → IsOpen rest → 0 < length rest → IsFirst rest (rest ++ more)
first_line rest [] is_open some = record {
  line = rest;
  later = [];
  first = ap lines (append-nil rest) ∙ lines-last rest is_open some;
  long = omega arith;
}
first_line rest (b ∷ more) is_open some = elim (cases_Bool (b == 10)) [
  | inl h ↦ record {
    line = strip_carriage_return rest;
    later = lines more;
    first = ap (λ (c : ℕ). lines (rest ++ c ∷ more)) (eqb-true b 10 h) ∙ lines-newline rest more is_open;
    long = length-strip rest;
  }
  | inr h ↦
      let longer : length (rest ++ b ∷ []) ≡ length rest + 1 = length-append rest (b ∷ []) in
      let there : IsFirst (rest ++ b ∷ []) ((rest ++ b ∷ []) ++ more) = first_line (rest ++ b ∷ []) more (IsOpen-more rest b h is_open) (omega (arith, longer)) in
      record {
        line = there.line;
        later = there.later;
        first = ap lines (sym (append_assoc rest (b ∷ []) more)) ∙ there.first;
        long = omega (arith, longer, there.long);
      }
]

module _ (programs : ℕ) (turn : Option ℕ) where
  -- a line that is too long says nothing
  step_of-long : (line : List ℕ) → 65536 < length line → step_of programs turn line ≡ None
  unfolding step_of
  step_of-long line long = rw (lt-ltb 65536 (length line) long) refl

  -- the first line of a text that begins with too many bytes is bad
  pub bad_first : (rest more : List ℕ) → IsOpen rest → 65537 < length rest → (line : List ℕ) × (later : List (List ℕ)) × (lines (rest ++ more) ≡ line ∷ later) × (step_of programs turn line ≡ None)
  bad_first rest more is_open long =
      let first = first_line rest more is_open (omega arith) in
      (first.line, first.later, first.first, step_of-long first.line (omega (arith, first.long)))
