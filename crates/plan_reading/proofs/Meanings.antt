-- What lines mean one after the other.
use Rattle.std.proofs.Common.{◌≡◌, ℕ, ◌+◌, Bool, true, false, cond, List, [], ◌∷◌, ◌++◌, Result, Ok, Err, refl, sym, ap, ◌∙◌}
use Rattle.std.specs.List.{AllByRecursion, list_any}
use Rattle.std.specs.Str.Lines.{lines}
use Rattle.rc_base.specs.Faults.{◌>>=◌, fault_if}
use Rattle.line_words.specs.Lines.{is_bad, is_comment}
use Rattle.script_lines.specs.declared.fault.LineFault.{LineFault}
use Rattle.script_lines.specs.declared.fault.LineFault.TheVariants.{BadByte, NoMachine}
use Rattle.script_lines.specs.declared.fault.ScriptFault.{ScriptFault}
use Rattle.script_ops.specs.Values.{ScriptValue}
use Rattle.script_text.specs.Meaning.{line_meaning, says}
use Rattle.script_text.specs.Reading.{after_line, finished, nothing_read, reading_from, script_in, script_of}
use Rattle.script_text.specs.States.{ReaderState, close_phase, is_start}
use Rattle.plan_reading.proofs.laws.TextLines.{IsGoodLine}

-- the state after lines, or the first fault
abbrev pub meaning_of : ReaderState → List (List ℕ) → Result ReaderState LineFault
meaning_of s [] = Ok s
meaning_of s (line ∷ lines) = line_meaning s line >>= λ t. meaning_of t lines

-- after a good line
pub meaning_of-cons : (s t : ReaderState) (line : List ℕ) (lines : List (List ℕ)) → line_meaning s line ≡ Ok t → meaning_of s (line ∷ lines) ≡ meaning_of t lines
meaning_of-cons s t line lines e = ap (λ (r : Result ReaderState LineFault). r >>= λ u. meaning_of u lines) e

-- after good lines
pub meaning_of-append : (xs ys : List (List ℕ)) (s t : ReaderState) → meaning_of s xs ≡ Ok t → meaning_of s (xs ++ ys) ≡ meaning_of t ys
meaning_of-append [] ys s t e = let same : s ≡ t = cc in ap (λ (u : ReaderState). meaning_of u ys) same
meaning_of-append (x ∷ xs) ys s t e = at (line_meaning s x) e (λ u f. meaning_of-append xs ys u t f)
  where
    at : (r : Result ReaderState LineFault) → (r >>= λ u. meaning_of u xs) ≡ Ok t → ((u : ReaderState) → meaning_of u xs ≡ Ok t → meaning_of u (xs ++ ys) ≡ meaning_of t ys) → (r >>= λ u. meaning_of u (xs ++ ys)) ≡ meaning_of t ys
    at (Ok u) f rest = rest u f
    at (Err fault) f rest = absurd (let g : Err fault ≡ Ok t = f in cc)

-- the script of good lines, of which one says something
pub reading_from-meaning_of : (ls : List (List ℕ)) (k : ℕ) (s t : ReaderState) → meaning_of s ls ≡ Ok t → is_start t.place ≡ false → reading_from k s ls ≡ Ok (script_in (close_phase t))
unfolding reading_from
reading_from-meaning_of [] k s t e begun =
    let same : s ≡ t = cc in
    ap (finished k) same ∙ rw begun refl
reading_from-meaning_of (l ∷ ls) k s t e begun = at (line_meaning s l) e (λ u f. reading_from-meaning_of ls (k + 1) u t f begun)
  where
    at : (r : Result ReaderState LineFault) → (r >>= λ u. meaning_of u ls) ≡ Ok t → ((u : ReaderState) → meaning_of u ls ≡ Ok t → reading_from (k + 1) u ls ≡ Ok (script_in (close_phase t)))
        → after_line (k + 1) r (λ u. reading_from (k + 1) u ls) ≡ Ok (script_in (close_phase t))
    at (Ok u) f rest = rest u f
    at (Err fault) f rest = absurd (let g : Err fault ≡ Ok t = f in cc)

-- The lines of a script are good, and leave a state that has the script.
pub record AreRead (s : ReaderState) (ls : List (List ℕ)) (script : ScriptValue) : Type 0 where
  pub last : ReaderState
  pub meaning : meaning_of s ls ≡ Ok last
  pub begun : is_start last.place ≡ false
  pub is : script ≡ script_in (close_phase last)

-- a script that was read, or another
abbrev script_or : ScriptValue → Result ScriptValue ScriptFault → ScriptValue
script_or other (Ok script) = script
script_or other (Err fault) = other

-- so it is of a script that was read
AreRead-reading_from : (ls : List (List ℕ)) (k : ℕ) (s : ReaderState) (script : ScriptValue) → reading_from k s ls ≡ Ok script → AreRead s ls script
unfolding reading_from
AreRead-reading_from [] k s script e = at (is_start s.place) refl e
  where
    fault : ScriptFault
    fault = record { line = k + 1; what = NoMachine }

    at : (b : Bool) → is_start s.place ≡ b → cond b (Err fault) (Ok (script_in (close_phase s))) ≡ Ok script → AreRead s [] script
    at true is f = absurd cc
    at false is f = record { last = s; meaning = refl; begun = is; is = sym (ap (script_or script) f) }
AreRead-reading_from (l ∷ ls) k s script e = at (line_meaning s l) refl e (λ u f. AreRead-reading_from ls (k + 1) u script f)
  where
    at : (r : Result ReaderState LineFault) → line_meaning s l ≡ r → after_line (k + 1) r (λ u. reading_from (k + 1) u ls) ≡ Ok script → ((u : ReaderState) → reading_from (k + 1) u ls ≡ Ok script → AreRead u ls script) → AreRead s (l ∷ ls) script
    at (Ok u) is f rest =
        let read = rest u f in
        record { last = read.last; meaning = meaning_of-cons s u l ls is ∙ read.meaning; begun = read.begun; is = read.is }
    at (Err fault) is f rest = absurd cc

pub AreRead-script_of : (text : List ℕ) (script : ScriptValue) → script_of text ≡ Ok script → AreRead nothing_read (lines text) script
AreRead-script_of text script e = AreRead-reading_from (lines text) 0 nothing_read script e

-- a line that means something has no bad byte
IsGoodLine-line_meaning : (s t : ReaderState) (line : List ℕ) → line_meaning s line ≡ Ok t → IsGoodLine line
unfolding line_meaning
IsGoodLine-line_meaning s t line e = at (list_any is_bad line) e
  where
    at : (b : Bool) → (fault_if b BadByte >>= λ a. cond (is_comment line) (Ok s) (says s line)) ≡ Ok t → b ≡ false
    at true f = absurd cc
    at false f = refl

-- so it is of several lines
AllGood-meaning_of : (ls : List (List ℕ)) (s t : ReaderState) → meaning_of s ls ≡ Ok t → AllByRecursion IsGoodLine ls
AllGood-meaning_of [] s t e = tt
AllGood-meaning_of (l ∷ ls) s t e = at (line_meaning s l) refl e (λ u f. AllGood-meaning_of ls u t f)
  where
    at : (r : Result ReaderState LineFault) → line_meaning s l ≡ r → (r >>= λ u. meaning_of u ls) ≡ Ok t → ((u : ReaderState) → meaning_of u ls ≡ Ok t → AllByRecursion IsGoodLine ls) → AllByRecursion IsGoodLine (l ∷ ls)
    at (Ok u) is f rest = (IsGoodLine-line_meaning s u l is, rest u f)
    at (Err fault) is f rest = absurd (let g : Err fault ≡ Ok t = f in cc)

-- and of those of a script
pub AllGood-script_of : (text : List ℕ) (script : ScriptValue) → script_of text ≡ Ok script → AllByRecursion IsGoodLine (lines text)
AllGood-script_of text script e = let read = AreRead-script_of text script e in AllGood-meaning_of (lines text) nothing_read read.last read.meaning
