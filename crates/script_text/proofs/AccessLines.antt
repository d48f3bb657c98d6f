-- Access lines in their usual form: their words, and what they mean.
use Rattle.std.proofs.Common.{◌≡◌, ℕ, ◌-◌, ◌^◌, ◌<◌, Bool, true, false, cond, eqb, ltb, ◌++◌, List, [], ◌∷◌, length, filter, drop, min, Some, None, option_and_then, refl, sym, ap, ◌∙◌, arith, append_assoc, length-append}
use Rattle.std.specs.Prelude.{codes}
use Rattle.std.specs.Char.{digit_value}
use Rattle.std.specs.List.{list_any, slice_split}
use Rattle.std.specs.Str.Lines.{lines, lines_of_parts}
use Rattle.std.specs.Str.Parse.{digits_value, AllDigits}
use Rattle.std.proofs.lemmas.Bool.{le-ltb}
use Rattle.std.proofs.lemmas.List.Folds.{list_any-append}
use Rattle.std.proofs.lemmas.List.Splits.{length-slice_split}
use Rattle.std.proofs.lemmas.Str.Parse.{digit_from_value}
use Rattle.lists.proofs.Cuts.{slice_split-none, slice_split-some, lines_of_parts-cons, strip_carriage_return-none}
use Rattle.num_text.specs.Blanks.{is_blank}
use Rattle.num_text.specs.Numbers.{dec_of, num_of, number_of}
use Rattle.num_text.proofs.laws.Digits.{number_of-digits, has_prefix-digits, AllDigits-hexadecimal_digits, eqb-decimal, is_blank-decimal, list_any-decimal}
use Rattle.num_text.proofs.laws.Pieces.{Cut-append}
use Rattle.machine.specs.declared.parameters.Parameters.{Parameters}
use Rattle.script_lines.specs.declared.arguments.Use.{Use}
use Rattle.script_text.specs.declared.kind.LinePosition.TheVariants.{Thread}
use Rattle.rc_base.specs.Texts.{is_text}
use Rattle.script_lines.specs.Arguments.{access_of, use_of}
use Rattle.script_text.specs.Kinds.{part_kind, command_kind, access_kind, kind_of}
use Rattle.line_words.specs.Lines.{words, is_some_word, is_bad, behind_word}
use Rattle.script_text.specs.Meaning.{line_meaning, word_means, means}
use Rattle.script_text.specs.States.{ReaderState}
use Rattle.script_text.specs.Usual.{BeginsWithAccess, use_by, access_means}
use Rattle.line_words.proofs.laws.FirstWord.{filter-some_word, words-blank}

-- ---- decimal digits

-- no digit is a bad byte
is_bad-decimal : (c : ℕ) → digit_value c < 10 → is_bad c ≡ false
is_bad-decimal c digit =
    let range = digit_from_value c digit in
    rw (le-ltb c 32 (omega (arith, range.0)), le-ltb 126 c (omega (arith, range.1))) refl

module _ (p : ℕ → Bool) where
  -- a piece, a byte and the rest
  list_any-piece : (x : List ℕ) (b : ℕ) (rest : List ℕ) → list_any p x ≡ false → p b ≡ false → list_any p rest ≡ false → list_any p (x ++ b ∷ rest) ≡ false
  list_any-piece x b rest none sep after = list_any-append p x (b ∷ rest) ∙ rw (none, sep, after) refl

  -- a piece, a separator and the rest
  slice_split-piece : (x : List ℕ) (c : ℕ) (rest : List ℕ) → list_any p x ≡ false → p c ≡ true → slice_split p (x ++ c ∷ rest) ≡ x ∷ slice_split p rest
  slice_split-piece x c rest none sep =
      let cut = Cut-append p x c rest none sep in
      slice_split-some p (x ++ c ∷ rest) cut.any ∙ rw (cut.before, cut.behind) refl

-- ---- words

-- a word, a blank and the rest
pub words-piece : (x rest : List ℕ) → 0 < length x → list_any is_blank x ≡ false → words (x ++ 32 ∷ rest) ≡ x ∷ words rest
words-piece x rest some none = ap (filter is_some_word) (slice_split-piece is_blank x 32 rest none refl) ∙ filter-some_word x (slice_split is_blank rest) some

-- the last word
words-one : (x : List ℕ) → 0 < length x → list_any is_blank x ≡ false → words x ≡ x ∷ []
words-one x some none = ap (filter is_some_word) (slice_split-none is_blank x none) ∙ filter-some_word x [] some

-- ---- lines

-- a line and its newline
lines-piece : (x rest : List ℕ) → 0 < length x → list_any (λ b. eqb b 10) x ≡ false → list_any (λ b. eqb b 13) x ≡ false → lines (x ++ 10 ∷ rest) ≡ x ∷ lines rest
lines-piece x rest some none plain =
    ap lines_of_parts (slice_split-piece (λ b. eqb b 10) x 10 rest none refl)
    ∙ lines_of_parts-cons x (slice_split (λ b. eqb b 10) rest) (omega (arith, length-slice_split (λ b. eqb b 10) rest))
    ∙ ap (λ (y : List ℕ). y ∷ lines rest) (strip_carriage_return-none x some plain)

-- ---- access lines

-- the words after the first
abbrev arguments : List ℕ → List ℕ → List ℕ → List ℕ
arguments task cpu addr = task ++ 32 ∷ (cpu ++ 32 ∷ addr)

-- the line
abbrev line_of : List ℕ → List ℕ → List ℕ → List ℕ
line_of task cpu addr = codes "access" ++ 32 ∷ arguments task cpu addr

-- three words of one decimal digit or more
record AreDecimal (task cpu addr : List ℕ) : Type 0 where
  task_some : 0 < length task
  cpu_some : 0 < length cpu
  addr_some : 0 < length addr
  task_digits : AllDigits 10 task
  cpu_digits : AllDigits 10 cpu
  addr_digits : AllDigits 10 addr

module _ (task cpu addr : List ℕ) (d : AreDecimal task cpu addr) where
  -- a test that no byte of the line passes
  list_any-line_of : (p : ℕ → Bool) → ((c : ℕ) → digit_value c < 10 → p c ≡ false) → list_any p (codes "access") ≡ false → p 32 ≡ false → list_any p (line_of task cpu addr) ≡ false
  list_any-line_of p h word space =
      list_any-piece p (codes "access") 32 (arguments task cpu addr) word space
      (list_any-piece p task 32 (cpu ++ 32 ∷ addr) (list_any-decimal p h task d.task_digits) space
      (list_any-piece p cpu 32 addr (list_any-decimal p h cpu d.cpu_digits) space (list_any-decimal p h addr d.addr_digits)))

  -- the words after the first
  words-arguments : words (arguments task cpu addr) ≡ task ∷ cpu ∷ addr ∷ []
  words-arguments =
      words-piece task (cpu ++ 32 ∷ addr) d.task_some (list_any-decimal is_blank is_blank-decimal task d.task_digits)
      ∙ ap (λ (ws : List (List ℕ)). task ∷ ws) (words-piece cpu addr d.cpu_some (list_any-decimal is_blank is_blank-decimal cpu d.cpu_digits))
      ∙ ap (λ (ws : List (List ℕ)). task ∷ cpu ∷ ws) (words-one addr d.addr_some (list_any-decimal is_blank is_blank-decimal addr d.addr_digits))

  -- what stands after the first word
  words-behind_word : words (behind_word (line_of task cpu addr)) ≡ words (arguments task cpu addr)
  words-behind_word = words-blank 32 (arguments task cpu addr) refl

  -- an access in a thread
  word_means-access : (s : ReaderState) (rest : List ℕ) → s.place ≡ Thread → word_means s (codes "access") rest ≡ access_means s (access_of s.machine (words rest))
  unfolding word_means kind_of part_kind command_kind access_kind is_text means
  word_means-access s rest thread = rw thread refl

  -- the line in a thread
  line_meaning-line_of : (s : ReaderState) → s.place ≡ Thread → line_meaning s (line_of task cpu addr) ≡ access_means s (access_of s.machine (task ∷ cpu ∷ addr ∷ []))
  unfolding line_meaning
  line_meaning-line_of s thread =
      rw (list_any-line_of is_bad is_bad-decimal refl refl)
      (word_means-access s (behind_word (line_of task cpu addr)) thread ∙ ap (λ (ws : List (List ℕ)). access_means s (access_of s.machine ws)) (words-behind_word ∙ words-arguments))

  -- the arguments of numbers of 64 bits
  access_of-numbers : (m : Parameters) (t c a : ℕ) → t ≡ digits_value 10 task → c ≡ digits_value 10 cpu → a ≡ digits_value 10 addr → t < 2 ^ 64 → access_of m (task ∷ cpu ∷ addr ∷ []) ≡ use_by m t c a
  unfolding use_of
  access_of-numbers m t c a t_is c_is a_is small =
      let t_word : dec_of task ≡ Some t = number_of-digits 10 task d.task_some d.task_digits ∙ ap (λ (n : ℕ). Some n) (sym t_is) in
      let c_word : dec_of cpu ≡ Some c = number_of-digits 10 cpu d.cpu_some d.cpu_digits ∙ ap (λ (n : ℕ). Some n) (sym c_is) in
      let a_dec : dec_of addr ≡ Some a = number_of-digits 10 addr d.addr_some d.addr_digits ∙ ap (λ (n : ℕ). Some n) (sym a_is) in
      let a_word : num_of addr ≡ Some a = ap (λ (b : Bool). cond b (number_of 16 (drop 2 addr)) (dec_of addr)) (has_prefix-digits addr (AllDigits-hexadecimal_digits addr d.addr_digits)) ∙ a_dec in
      let t_capped : min t (2 ^ 64 - 1) ≡ t = omega arith in
      rw (t_word, c_word, a_word, t_capped) (at (ltb c m.cpus) (ltb a (2 ^ 48)))
    where
      use_at : ℕ → ℕ → Use
      use_at cpu at = record { task = t; cpu = cpu; at = at }

      at : (p q : Bool) → option_and_then {U = Use} (λ (cpu : ℕ). option_and_then {U = Use} (λ (at : ℕ). Some (use_at cpu at)) (cond q (Some a) None)) (cond p (Some c) None) ≡ cond p (cond q (Some (use_at c a)) None) None
      at true true = refl
      at true false = refl
      at false true = refl
      at false false = refl

-- the line of a text that begins with one, and what it means in a thread
pub record FirstAccess (text : List ℕ) (task cpu addr : ℕ) (rest : List ℕ) : Type 0 where
  pub line : List ℕ
  pub first : lines text ≡ line ∷ lines rest
  pub shorter : length rest < length text
  pub meaning : (s : ReaderState) → s.place ≡ Thread → line_meaning s line ≡ access_means s (use_by s.machine task cpu addr)

-- a text that begins with an access line
pub FirstAccess-begins : (text : List ℕ) (task cpu addr : ℕ) (rest : List ℕ) → BeginsWithAccess text task cpu addr rest → FirstAccess text task cpu addr rest
FirstAccess-begins text task cpu addr rest h =
    let t = h.task_number.word in
    let c = h.cpu_number.word in
    let a = h.addr_number.word in
    let d : AreDecimal t c a = record { task_some = h.task_number.some; cpu_some = h.cpu_number.some; addr_some = h.addr_number.some; task_digits = h.task_number.digits; cpu_digits = h.cpu_number.digits; addr_digits = h.addr_number.digits } in
    let parts : text ≡ line_of t c a ++ 10 ∷ rest = h.kind ∙ ap (λ (xs : List ℕ). codes "access " ++ xs) (h.task_number.parts ∙ ap (λ (xs : List ℕ). t ++ 32 ∷ xs) (h.cpu_number.parts ∙ ap (λ (xs : List ℕ). c ++ 32 ∷ xs) h.addr_number.parts)) ∙ sym (joined t c a) in
    record {
      line = line_of t c a;
      first = ap lines parts ∙ lines-piece (line_of t c a) rest (omega arith) (list_any-line_of t c a d (λ b. eqb b 10) (λ b digit. eqb-decimal b 10 (omega arith) digit) refl refl) (list_any-line_of t c a d (λ b. eqb b 13) (λ b digit. eqb-decimal b 13 (omega arith) digit) refl refl);
      shorter = omega (arith, ap length parts, length-append (line_of t c a) (10 ∷ rest));
      meaning = λ s thread. line_meaning-line_of t c a d s thread ∙ ap (access_means s) (access_of-numbers t c a d s.machine task cpu addr h.task_number.value h.cpu_number.value h.addr_number.value h.task_number.fits);
    }
  where
    joined : (t c a : List ℕ) → line_of t c a ++ 10 ∷ rest ≡ codes "access " ++ t ++ 32 ∷ (c ++ 32 ∷ (a ++ 10 ∷ rest))
    joined t c a = ap (λ (xs : List ℕ). codes "access " ++ xs) (append_assoc t (32 ∷ (c ++ 32 ∷ a)) (10 ∷ rest) ∙ ap (λ (xs : List ℕ). t ++ 32 ∷ xs) (append_assoc c (32 ∷ a) (10 ∷ rest)))
