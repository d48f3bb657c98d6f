-- What levels leave, as a trace, reads back.
use Rattle.std.proofs.Common.{◌≡◌, ℕ, ◌+◌, ◌-◌, ◌*◌, ◌/◌, ◌^◌, ◌<◌, ◌≤◌, Bool, true, false, cond, eqb, ◌||◌, List, [], ◌∷◌, ◌++◌, length, filter, Some, refl, ap, ◌∙◌, arith, append_assoc, length-append}
use Rattle.std.specs.Prelude.{Ok, codes}
use Rattle.std.specs.Char.{digit_value}
use Rattle.std.specs.List.{list_any}
use Rattle.std.specs.Str.Lines.{lines, strip_carriage_return}
use Rattle.std.specs.Str.Parse.{AllDigits}
use Rattle.std.proofs.Math.Nat.{div-mul-le_self, lt-div-mul-add}
use Rattle.std.proofs.lemmas.Bool.{le-leb, le-ltb, lt-ltb}
use Rattle.std.proofs.lemmas.List.Elements.{All-cons, All-head, All-nil, All-tail}
use Rattle.std.proofs.lemmas.List.Folds.{list_any-append}
use Rattle.lackey_text.specs.Lines.{addr_of, comma, line_of, use_at, use_of}
use Rattle.lackey_text.specs.Uses.{uses_once}
use Rattle.lackey_text.specs.declared.line.LackeyKind.{LackeyKind}
use Rattle.lackey_text.specs.declared.line.LackeyKind.TheVariants.{Code, Load}
use Rattle.lackey_text.specs.declared.line.LackeyLine.TheVariants.{Use}
use Rattle.lackey_text.specs.declared.uses.LineUse.{LineUse}
use Rattle.line_words.proofs.laws.FirstWord.{filter-some_word}
use Rattle.line_words.specs.Lines.{is_some_word, words}
use Rattle.lists.proofs.Cuts.{slice_split-none, strip_carriage_return-none}
use Rattle.num_text.proofs.laws.Digits.{AllDigits-hexadecimal, digits_value-hexadecimal, eqb-digit, is_blank-digit, length-hexadecimal_some, list_any-digits, number_of-digits}
use Rattle.num_text.proofs.laws.Pieces.{Cut-append}
use Rattle.num_text.proofs.laws.Prints.{length-hexadecimal}
use Rattle.num_text.specs.Blanks.{is_blank}
use Rattle.num_text.specs.Numbers.{number_of}
use Rattle.num_text.specs.Printed.{hexadecimal}
use Rattle.rc_base.specs.Texts.{is_text}
use Rattle.way_curve.proofs.laws.FirstLines.{lines-newline}
use Rattle.way_curve.specs.FilterTexts.{AreInMemory, use_text, uses_text}
use Rattle.way_curve.specs.Reading.{IsOpen}
use Rattle.way_curve.specs.TraceTexts.{said_of, trace_of, uses_from}

-- ---- the text of a use, without its newline

-- the word ADDR,64
abbrev word : ℕ → List ℕ
word line = hexadecimal 0 (64 * line) ++ codes ",64"

-- the beginning of the line
abbrev head : Bool → List ℕ
head code = cond code (codes "I  ") (codes " L ")

abbrev line_text : Bool → ℕ → List ℕ
line_text code line = head code ++ word line

-- a line of memory begins at an address of memory
addr-lt : (line : ℕ) → line < 4398046511104 → 64 * line < 2 ^ 64
addr-lt line h = omega arith

-- a text in which no newline is found
IsOpen-none : (xs : List ℕ) → list_any (λ (b : ℕ). eqb b 10) xs ≡ false → IsOpen xs
IsOpen-none [] h = All-nil (λ (b : ℕ). eqb b 10 ≡ false)
IsOpen-none (x ∷ xs) h = step (eqb x 10) refl h (λ none. IsOpen-none xs none)
  where
    step : (t : Bool) → eqb x 10 ≡ t → (t || list_any (λ (b : ℕ). eqb b 10) xs) ≡ false → (list_any (λ (b : ℕ). eqb b 10) xs ≡ false → IsOpen xs) → IsOpen (x ∷ xs)
    step true e any rest = absurd cc
    step false e any rest = All-cons (λ (b : ℕ). eqb b 10 ≡ false) x xs e (rest any)

module _ (line : ℕ) (small : line < 4398046511104) where
  all_digits : AllDigits 16 (hexadecimal 0 (64 * line))
  all_digits = AllDigits-hexadecimal 0 (64 * line) (addr-lt line small)

  -- a byte that is no digit and does not stand around the digits is not in it
  list_any-line : (p : ℕ → Bool) → ((c : ℕ) → digit_value c < 16 → p c ≡ false) → list_any p (codes ",64") ≡ false → (code : Bool) → list_any p (head code) ≡ false → list_any p (line_text code line) ≡ false
  list_any-line p none after code before =
      list_any-append p (head code) (word line)
      ∙ rw before (list_any-append p (hexadecimal 0 (64 * line)) (codes ",64") ∙ rw (list_any-digits p none (hexadecimal 0 (64 * line)) all_digits) after)

  -- the word has no blank
  list_any-word : list_any is_blank (word line) ≡ false
  list_any-word = list_any-append is_blank (hexadecimal 0 (64 * line)) (codes ",64") ∙ rw (list_any-digits is_blank is_blank-digit (hexadecimal 0 (64 * line)) all_digits) refl

  length-word : length (word line) ≡ length (hexadecimal 0 (64 * line)) + 3
  length-word = length-append (hexadecimal 0 (64 * line)) (codes ",64")

  length-line : (code : Bool) → length (line_text code line) ≡ length (hexadecimal 0 (64 * line)) + 6
  length-line true = omega (arith, length-append (codes "I  ") (word line), length-word)
  length-line false = omega (arith, length-append (codes " L ") (word line), length-word)

  -- no newline
  IsOpen-line : (code : Bool) → IsOpen (line_text code line)
  IsOpen-line code = IsOpen-none (line_text code line) (list_any-line (λ (b : ℕ). eqb b 10) (λ c digit. eqb-digit c 10 refl digit) refl code (start code))
    where
      start : (b : Bool) → list_any (λ (c : ℕ). eqb c 10) (head b) ≡ false
      start true = refl
      start false = refl

  -- no carriage return
  strip-line : (code : Bool) → strip_carriage_return (line_text code line) ≡ line_text code line
  strip-line code =
      strip_carriage_return-none (line_text code line) (omega (arith, length-line code)) (list_any-line (λ (b : ℕ). eqb b 13) (λ c digit. eqb-digit c 13 refl digit) refl code (start code))
    where
      start : (b : Bool) → list_any (λ (b : ℕ). eqb b 13) (head b) ≡ false
      start true = refl
      start false = refl

  -- two words
  words-code : words (line_text true line) ≡ codes "I" ∷ word line ∷ []
  words-code = ap (λ (ps : List (List ℕ)). filter is_some_word (codes "I" ∷ [] ∷ ps)) (slice_split-none is_blank (word line) list_any-word) ∙ ap (λ (ws : List (List ℕ)). codes "I" ∷ ws) (filter-some_word (word line) [] (omega (arith, length-word)))

  words-data : words (line_text false line) ≡ codes "L" ∷ word line ∷ []
  words-data = ap (λ (ps : List (List ℕ)). filter is_some_word ([] ∷ codes "L" ∷ ps)) (slice_split-none is_blank (word line) list_any-word) ∙ ap (λ (ws : List (List ℕ)). codes "L" ∷ ws) (filter-some_word (word line) [] (omega (arith, length-word)))

  -- the word is a use of 64 bytes
  use_of-word : (kind : LackeyKind) → use_of kind (word line) ≡ Some (Use kind (64 * line) 64)
  use_of-word kind =
      let cut = Cut-append comma (hexadecimal 0 (64 * line)) 44 (codes "64") (list_any-digits comma (λ c digit. eqb-digit c 44 refl digit) (hexadecimal 0 (64 * line)) all_digits) refl in
      let number : number_of 16 (hexadecimal 0 (64 * line)) ≡ Some (64 * line) =
      number_of-digits 16 (hexadecimal 0 (64 * line)) (length-hexadecimal_some 0 (64 * line) (addr-lt line small)) all_digits ∙ ap Some (digits_value-hexadecimal 0 (64 * line) (addr-lt line small)) in
      let addr : addr_of (hexadecimal 0 (64 * line)) ≡ Some (64 * line) = rw (number, lt-ltb (64 * line) 281474976710656 (omega arith)) refl in
      let there : use_at kind (64 * line) 64 ≡ Some (Use kind (64 * line) 64) = rw (le-leb (64 * line + 64) 281474976710656 (omega arith)) refl in
      rw (cut.any, cut.before, cut.behind, addr) there

  line_of-code : line_of (line_text true line) ≡ Some (Use Code (64 * line) 64)
  unfolding is_text
  line_of-code = rw words-code (use_of-word Code)

  line_of-data : line_of (line_text false line) ≡ Some (Use Load (64 * line) 64)
  unfolding is_text
  line_of-data = rw words-data (use_of-word Load)

  -- which uses its own line
  uses_once-line : (code : Bool) → uses_once code (64 * line) 64 ≡ record { line = line; code = code } ∷ []
  uses_once-line code =
      let first : 64 * line / 64 ≡ line = omega (arith, div-mul-le_self (64 * line) 64, lt-div-mul-add {a = 64 * line} {b = 64} (omega arith)) in
      let last : (64 * line + 64 - 1) / 64 ≡ line = omega (arith, div-mul-le_self (64 * line + 64 - 1) 64, lt-div-mul-add {a = 64 * line + 64 - 1} {b = 64} (omega arith)) in
      let one : line + 1 - line ≡ 1 = omega arith in
      rw (first, last, one) refl

  short-line : (code : Bool) → length (line_text code line) ≤ 65536
  short-line code = omega (arith, length-line code, length-hexadecimal 0 (64 * line) (addr-lt line small) (omega arith))

  said_of-code : said_of (line_text true line) ≡ Some (Use Code (64 * line) 64)
  unfolding said_of
  said_of-code = rw (le-ltb 65536 (length (line_text true line)) (short-line true)) line_of-code

  said_of-data : said_of (line_text false line) ≡ Some (Use Load (64 * line) 64)
  unfolding said_of
  said_of-data = rw (le-ltb 65536 (length (line_text false line)) (short-line false)) line_of-data

-- ---- uses as lines

-- a use before lines reads as that use before theirs
uses_from-use : (n : ℕ) (code : Bool) (line : ℕ) (later : List (List ℕ)) (uses : List LineUse) → line < 4398046511104 → uses_from (n + 1) later ≡ Ok uses
    → uses_from n (line_text code line ∷ later) ≡ Ok (record { line = line; code = code } ∷ uses)
unfolding uses_from
uses_from-use n true line later uses small rest = rw (said_of-code line small, rest, uses_once-line line small true) refl
uses_from-use n false line later uses small rest = rw (said_of-data line small, rest, uses_once-line line small false) refl

-- its line stands first
lines-use : (u : LineUse) (rest : List ℕ) → u.line < 4398046511104 → lines (use_text u ++ rest) ≡ line_text u.code u.line ∷ lines rest
unfolding use_text
lines-use u rest small =
    let text = line_text u.code u.line in
    let front = head u.code in
    let number = hexadecimal 0 (64 * u.line) in
    let end : List ℕ = codes ",64" in
    let split : use_text u ++ rest ≡ text ++ 10 ∷ rest = append_assoc (front ++ number ++ end) (10 ∷ []) rest ∙ ap (λ (l : List ℕ). l ++ 10 ∷ rest) (append_assoc front number end) in
    ap lines split ∙ (lines-newline text rest (IsOpen-line u.line small u.code) ∙ ap (λ (l : List ℕ). l ∷ lines rest) (strip-line u.line small u.code))

-- uses of memory read back
uses_from-uses_text : (n : ℕ) (uses : List LineUse) → AreInMemory uses → uses_from n (lines (uses_text uses)) ≡ Ok uses
unfolding uses_from
uses_from-uses_text n [] small = refl
uses_from-uses_text n (u ∷ uses) small =
    let here : u.line < 4398046511104 = All-head (λ (x : LineUse). x.line < 4398046511104) u uses small in
    let later = uses_from-uses_text (n + 1) uses (All-tail (λ (x : LineUse). x.line < 4398046511104) u uses small) in
    ap (λ (l : List (List ℕ)). uses_from n l) (lines-use u (uses_text uses) here) ∙ uses_from-use n u.code u.line (lines (uses_text uses)) uses here later

pub trace_of-uses_text : (uses : List LineUse) → AreInMemory uses → trace_of (uses_text uses) ≡ Ok uses
trace_of-uses_text uses small = uses_from-uses_text 0 uses small
