-- The lines of an input that begins with whole lines, and its script.
use Rattle.std.proofs.Common.{◌≡◌, ℕ, ◌+◌, ◌<◌, ◌≤◌, Bool, true, List, [], ◌∷◌, ◌++◌, length, map, Result, Ok, Err, refl, sym, ap, ◌∙◌, arith, inl, inr}
use Rattle.std.specs.List.{onto_first, slice_split}
use Rattle.std.specs.Prelude.{count_by}
use Rattle.std.specs.Str.Lines.{lines, lines_of_parts, strip_carriage_return}
use Rattle.std.proofs.lemmas.Bool.{cases_Bool}
use Rattle.std.proofs.lemmas.List.{append-nil, length-append, length-map}
use Rattle.std.proofs.lemmas.List.Splits.{length-slice_split, slice_split-cons_no, slice_split-cons_yes}
use Rattle.lists.proofs.Cuts.{lines_of_parts-cons}
use Rattle.check_parts.proofs.Divisions.{newline}
use Rattle.journal_text.specs.Readings.{parts_of}
use Rattle.script_lines.specs.declared.fault.LineFault.{LineFault}
use Rattle.script_lines.specs.declared.fault.ScriptFault.{ScriptFault}
use Rattle.script_ops.specs.Values.{ScriptValue}
use Rattle.script_text.specs.Meaning.{line_meaning}
use Rattle.script_text.specs.Reading.{after_line as follows, nothing_read, reading_from, script_of}
use Rattle.script_text.specs.States.{ReaderState, is_start}

-- ---- the parts between newlines

-- an element in front of the first part
onto_first-append : (x : ℕ) (a b : List (List ℕ)) → 0 < length a → onto_first x (a ++ b) ≡ onto_first x a ++ b
onto_first-append x [] b some = absurd (omega (arith, some))
onto_first-append x (part ∷ parts) b some = refl

-- the parts before a separator, and those after it
pub slice_split-append : (p : ℕ → Bool) (xs ys : List ℕ) (y : ℕ) → p y ≡ true → slice_split p (xs ++ y ∷ ys) ≡ slice_split p xs ++ slice_split p ys
slice_split-append p [] ys y separates = slice_split-cons_yes p y ys separates
slice_split-append p (x ∷ xs) ys y separates =
    let rest = slice_split-append p xs ys y separates in
    let some : 0 < length (slice_split p xs) = omega (arith, length-slice_split p xs) in
    elim (cases_Bool (p x)) [
      | inl is ↦ slice_split-cons_yes p x (xs ++ y ∷ ys) is ∙ (ap (λ (parts : List (List ℕ)). [] ∷ parts) rest ∙ ap (λ (parts : List (List ℕ)). parts ++ slice_split p ys) (sym (slice_split-cons_yes p x xs is)))
      | inr is ↦ slice_split-cons_no p x (xs ++ y ∷ ys) is
          ∙ (ap (onto_first x) rest
          ∙ (onto_first-append x (slice_split p xs) (slice_split p ys) some ∙ ap (λ (parts : List (List ℕ)). parts ++ slice_split p ys) (sym (slice_split-cons_no p x xs is))))
    ]

-- ---- lines

-- the lines of more parts
lines_of_parts-append : (a b : List (List ℕ)) → 0 < length b → lines_of_parts (a ++ b) ≡ map strip_carriage_return a ++ lines_of_parts b
lines_of_parts-append [] b some = refl
lines_of_parts-append (x ∷ a) b some =
    lines_of_parts-cons x (a ++ b) (omega (arith, some, length-append a b)) ∙ ap (λ (ls : List (List ℕ)). strip_carriage_return x ∷ ls) (lines_of_parts-append a b some)

-- the lines before a newline, and those after it
lines-append : (head more : List ℕ) → lines (head ++ 10 ∷ more) ≡ map strip_carriage_return (parts_of head) ++ lines more
lines-append head more =
    ap lines_of_parts (slice_split-append newline head more 10 refl) ∙ lines_of_parts-append (parts_of head) (parts_of more) (omega (arith, length-slice_split newline more))

-- the lines before a newline alone
lines-whole : (head : List ℕ) → lines (head ++ 10 ∷ []) ≡ map strip_carriage_return (parts_of head)
lines-whole head = lines-append head [] ∙ append-nil (map strip_carriage_return (parts_of head))

-- they are as many as there are newlines
length-lines_whole : (head : List ℕ) → length (lines (head ++ 10 ∷ [])) ≡ count_by newline (head ++ 10 ∷ [])
length-lines_whole head =
    let parts = ap (λ (ps : List (List ℕ)). length ps) (slice_split-append newline head [] 10 refl) in
    let stripped = ap (λ (ls : List (List ℕ)). length ls) (lines-whole head) in
    omega (arith, parts, stripped, length-append (parts_of head) ([] ∷ []), length-slice_split newline (head ++ 10 ∷ []), length-map (parts_of head) strip_carriage_return)

-- the line of a fault
line_in : Result ScriptValue ScriptFault → ℕ
line_in (Ok script) = 0
line_in (Err fault) = fault.line

-- a bad line is one whatever follows
reading_from-bad : (n : ℕ) (s : ReaderState) (xs ys : List (List ℕ)) (fault : ScriptFault) → reading_from n s xs ≡ Err fault → fault.line ≤ n + length xs → reading_from n s (xs ++ ys) ≡ Err fault
unfolding reading_from line_in
reading_from-bad n s [] ys fault bad early = elim (cases_Bool (is_start s.place)) [
  | inl start ↦ (let none = rw start at bad in let line : n + 1 ≡ fault.line = ap line_in none in absurd (omega (arith, early, line)))
  | inr later ↦ (let none = rw later at bad in absurd cc)
]
reading_from-bad n s (line ∷ xs) ys fault bad early = follow (line_meaning s line) (λ s'. reading_from-bad (n + 1) s' xs ys fault) bad
  where
    follow : (m : Result ReaderState LineFault) → ((s' : ReaderState) → reading_from (n + 1) s' xs ≡ Err fault → fault.line ≤ n + 1 + length xs → reading_from (n + 1) s' (xs ++ ys) ≡ Err fault)
        → follows (n + 1) m (λ s'. reading_from (n + 1) s' xs) ≡ Err fault → follows (n + 1) m (λ s'. reading_from (n + 1) s' (xs ++ ys)) ≡ Err fault
    follow (Ok s') rest is = rest s' is (omega (arith, early))
    follow (Err f) rest is = is

-- the script of more text than these whole lines
pub script_of-bad : (head more : List ℕ) (fault : ScriptFault) → script_of (head ++ 10 ∷ []) ≡ Err fault → fault.line ≤ count_by newline (head ++ 10 ∷ []) → script_of (head ++ 10 ∷ more) ≡ Err fault
script_of-bad head more fault bad early =
    let all : lines (head ++ 10 ∷ more) ≡ lines (head ++ 10 ∷ []) ++ lines more = lines-append head more ∙ ap (λ (ls : List (List ℕ)). ls ++ lines more) (sym (lines-whole head)) in
    let few : fault.line ≤ 0 + length (lines (head ++ 10 ∷ [])) = omega (arith, early, length-lines_whole head) in
    ap (reading_from 0 nothing_read) all ∙ reading_from-bad 0 nothing_read (lines (head ++ 10 ∷ [])) (lines more) fault bad few
