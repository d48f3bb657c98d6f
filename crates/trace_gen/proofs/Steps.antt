-- What lines mean one after the other. These belong beside `script_text`'s reading.
use Rattle.std.proofs.Common.{◌≡◌, ℕ, ◌+◌, false, List, [], ◌∷◌, ◌++◌, Result, Ok, Err, refl, ap, ◌∙◌}
use Rattle.rc_base.specs.Faults.{◌>>=◌}
use Rattle.script_lines.specs.declared.fault.LineFault.{LineFault}
use Rattle.script_text.specs.Meaning.{line_meaning}
use Rattle.script_text.specs.Reading.{after_line, finished, reading_from, script_in}
use Rattle.script_text.specs.States.{ReaderState, close_phase, is_start}

-- the state after lines, or the first fault
abbrev pub meaning_of : ReaderState → List (List ℕ) → Result ReaderState LineFault
meaning_of s [] = Ok s
meaning_of s (l ∷ ls) = line_meaning s l >>= λ t. meaning_of t ls

-- after a good line
pub meaning_of-cons : (s t : ReaderState) (l : List ℕ) (ls : List (List ℕ)) → line_meaning s l ≡ Ok t → meaning_of s (l ∷ ls) ≡ meaning_of t ls
meaning_of-cons s t l ls e = ap (λ (r : Result ReaderState LineFault). r >>= λ u. meaning_of u ls) e

-- after good lines
pub meaning_of-append : (xs ys : List (List ℕ)) (s t : ReaderState) → meaning_of s xs ≡ Ok t → meaning_of s (xs ++ ys) ≡ meaning_of t ys
meaning_of-append [] ys s t e = let same : s ≡ t = cc in ap (λ (u : ReaderState). meaning_of u ys) same
meaning_of-append (x ∷ xs) ys s t e = at (line_meaning s x) e (λ u f. meaning_of-append xs ys u t f)
  where
    at : (r : Result ReaderState LineFault) → (r >>= λ u. meaning_of u xs) ≡ Ok t → ((u : ReaderState) → meaning_of u xs ≡ Ok t → meaning_of u (xs ++ ys) ≡ meaning_of t ys) → (r >>= λ u. meaning_of u (xs ++ ys)) ≡ meaning_of t ys
    at (Ok u) f rest = rest u f
    at (Err fault) f rest = absurd (let g : Err fault ≡ Ok t = f in cc)

-- The script of lines that all are good, of which one says something.
pub reading_from-meaning_of : (ls : List (List ℕ)) (k : ℕ) (s t : ReaderState) → meaning_of s ls ≡ Ok t → is_start t.place ≡ false → reading_from k s ls ≡ Ok (script_in (close_phase t))
unfolding reading_from
reading_from-meaning_of [] k s t e begun =
    let same : s ≡ t = cc in
    ap (finished k) same ∙ rw begun refl
reading_from-meaning_of (l ∷ ls) k s t e begun = at (line_meaning s l) e (λ u f. reading_from-meaning_of ls (k + 1) u t f begun)
  where
    at : (r : Result ReaderState LineFault) → (r >>= λ u. meaning_of u ls) ≡ Ok t → ((u : ReaderState) → meaning_of u ls ≡ Ok t → reading_from (k + 1) u ls ≡ Ok (script_in (close_phase t)))
        → after_line (k + 1) r (λ u. reading_from (k + 1) u ls) ≡ Ok (script_in (close_phase t))
    at (Ok u) f rest = rest u f
    at (Err fault) f rest = absurd (let g : Err fault ≡ Ok t = f in cc)
