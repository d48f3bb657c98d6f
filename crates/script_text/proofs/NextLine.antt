-- What one more line changes.
use Rattle.std.proofs.Common.{◌≡◌, ℕ, ◌+◌, List, [], ◌∷◌, Ok, Err, refl}
use Rattle.script_lines.specs.declared.fault.LineError.{LineError}
use Rattle.script_lines.specs.declared.fault.LineError.TheVariants as errors
use Rattle.script_text.specs.States.{ReaderState}
use Rattle.script_text.specs.Meaning.{line_meaning}
use Rattle.script_text.specs.Meaning as meaning
use Rattle.script_text.specs.Reading.{reading_from, finished, located, Reads}

-- a good line
pub reading_from-good_line : (n : ℕ) (s s' : ReaderState) (line : List ℕ) (lines : List (List ℕ)) → line_meaning s line ≡ Ok s' → reading_from n s (line ∷ lines) ≡ reading_from (n + 1) s' lines
unfolding reading_from
reading_from-good_line n s s' line lines h = rw h refl

-- a bad line
pub Reads-bad_line : (n : ℕ) (s : ReaderState) (line : List ℕ) (lines : List (List ℕ)) (e : LineError) → meaning.Fails e (line_meaning s line) → Reads (Err (located e (n + 1))) (reading_from n s (line ∷ lines))
unfolding reading_from
Reads-bad_line n s line lines errors.NoMemory h = tt
Reads-bad_line n s line lines (errors.Fault f) h = rw h refl

-- no line
pub reading_from-nil : (n : ℕ) (s : ReaderState) → reading_from n s [] ≡ finished n s
unfolding reading_from
reading_from-nil n s = refl
