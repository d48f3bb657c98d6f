-- The lines of a text and of what follows it.
use Rattle.std.proofs.Common.{◌≡◌, ℕ, suc, ◌+◌, ◌-◌, ◌<◌, Bool, true, false, cond, eqb, not, ◌||◌, List, [], ◌∷◌, ◌++◌, length, map, take, get_or, refl, sym, ap, subst, ◌∙◌, arith, append_assoc, length-append}
use Rattle.std.specs.List.{AllByRecursion, list_any, onto_first, slice_split}
use Rattle.std.specs.Str.Lines.{lines, lines_of_parts, strip_carriage_return}
use Rattle.std.proofs.lemmas.Bool.{eqb-true, ne_eqb}
use Rattle.std.proofs.lemmas.Grind.{take_at_read}
use Rattle.std.proofs.lemmas.List.{append-nil, take_all}
use Rattle.std.proofs.lemmas.List.Splits.{length-slice_split}
use Rattle.lists.proofs.Cuts.{lines_of_parts-cons, slice_split-none, strip_carriage_return-none}
use Rattle.line_words.specs.Lines.{is_bad}
use Rattle.plan_reading.specs.ReadBack.{ends_line, whole_lines}

-- a newline, and a carriage return
abbrev pub is_newline : ℕ → Bool
is_newline b = eqb b 10

abbrev pub is_carriage_return : ℕ → Bool
is_carriage_return b = eqb b 13

-- ---- the parts of two texts

-- a byte onto the first of some parts
onto_first-append : (b : ℕ) (parts more : List (List ℕ)) → 0 < length parts → onto_first b (parts ++ more) ≡ onto_first b parts ++ more
onto_first-append b [] more some = absurd (omega (arith, some))
onto_first-append b (part ∷ parts) more some = refl

-- the parts of a text, a separator and another text
slice_split-append : (p : ℕ → Bool) (xs : List ℕ) (c : ℕ) (rest : List ℕ) → p c ≡ true → slice_split p (xs ++ c ∷ rest) ≡ slice_split p xs ++ slice_split p rest
slice_split-append p [] c rest sep = rw sep refl
slice_split-append p (b ∷ xs) c rest sep = at (p b) (slice_split-append p xs c rest sep)
  where
    at : (t : Bool) → slice_split p (xs ++ c ∷ rest) ≡ slice_split p xs ++ slice_split p rest
        → cond t ([] ∷ slice_split p (xs ++ c ∷ rest)) (onto_first b (slice_split p (xs ++ c ∷ rest))) ≡ cond t ([] ∷ slice_split p xs) (onto_first b (slice_split p xs)) ++ slice_split p rest
    at true same = ap (λ (parts : List (List ℕ)). [] ∷ parts) same
    at false same = ap (onto_first b) same ∙ onto_first-append b (slice_split p xs) (slice_split p rest) (omega (arith, length-slice_split p xs))

-- the lines of parts before others
lines_of_parts-append : (parts more : List (List ℕ)) → 0 < length more → lines_of_parts (parts ++ more) ≡ map strip_carriage_return parts ++ lines_of_parts more
lines_of_parts-append [] more some = refl
lines_of_parts-append (part ∷ parts) more some =
    lines_of_parts-cons part (parts ++ more) (omega (arith, some, length-append parts more))
    ∙ ap (λ (rest : List (List ℕ)). strip_carriage_return part ∷ rest) (lines_of_parts-append parts more some)

-- the lines of a text, a newline and another text
lines-newline : (text rest : List ℕ) → lines (text ++ 10 ∷ rest) ≡ map strip_carriage_return (slice_split is_newline text) ++ lines rest
lines-newline text rest =
    ap lines_of_parts (slice_split-append is_newline text 10 rest refl)
    ∙ lines_of_parts-append (slice_split is_newline text) (slice_split is_newline rest) (omega (arith, length-slice_split is_newline rest))

-- a text that ends with a newline, and another
pub lines-ended : (text rest : List ℕ) → lines ((text ++ 10 ∷ []) ++ rest) ≡ lines (text ++ 10 ∷ []) ++ lines rest
lines-ended text rest =
    ap lines (append_assoc text (10 ∷ []) rest)
    ∙ lines-newline text rest
    ∙ ap (λ (front : List (List ℕ)). front ++ lines rest) (sym (lines-newline text [] ∙ append-nil (map strip_carriage_return (slice_split is_newline text))))

-- ---- good lines

-- a line has no bad byte
abbrev pub IsGoodLine : List ℕ → Type 0
IsGoodLine line = list_any is_bad line ≡ false

-- what no good byte passes, no good line has
list_any-good : (p : ℕ → Bool) → ((b : ℕ) → is_bad b ≡ false → p b ≡ false) → (line : List ℕ) → IsGoodLine line → list_any p line ≡ false
list_any-good p none [] good = refl
list_any-good p none (b ∷ bs) good = at (is_bad b) refl (λ rest. list_any-good p none bs rest) good
  where
    at : (bad : Bool) → is_bad b ≡ bad → (list_any is_bad bs ≡ false → list_any p bs ≡ false) → (bad || list_any is_bad bs) ≡ false → list_any p (b ∷ bs) ≡ false
    at true is later rest = absurd cc
    at false is later rest = rw (none b is, later rest) refl

-- a newline and a carriage return are bad bytes
is_newline-good : (b : ℕ) → is_bad b ≡ false → is_newline b ≡ false
is_newline-good b good = ne_eqb b 10 (λ e. absurd (let bad : true ≡ false = ap is_bad (sym e) ∙ good in cc))

is_carriage_return-good : (b : ℕ) → is_bad b ≡ false → is_carriage_return b ≡ false
is_carriage_return-good b good = ne_eqb b 13 (λ e. absurd (let bad : true ≡ false = ap is_bad (sym e) ∙ good in cc))

-- a good line has no carriage return to lose
strip-good : (line : List ℕ) → 0 < length line → IsGoodLine line → strip_carriage_return line ≡ line
strip-good line some good = strip_carriage_return-none line some (list_any-good is_carriage_return is_carriage_return-good line good)

-- a good line, its newline and a text
pub lines-cons : (line rest : List ℕ) → 0 < length line → IsGoodLine line → lines (line ++ 10 ∷ rest) ≡ line ∷ lines rest
lines-cons line rest some good =
    lines-newline line rest
    ∙ ap (λ (parts : List (List ℕ)). map strip_carriage_return parts ++ lines rest) (slice_split-none is_newline line (list_any-good is_newline is_newline-good line good))
    ∙ ap (λ (first : List ℕ). first ∷ lines rest) (strip-good line some good)

-- ---- a text whose last line has no newline

-- the last of some parts has a byte
abbrev EndsSome : List (List ℕ) → Type 0
EndsSome [] = ⊥
EndsSome (part ∷ []) = 0 < length part
EndsSome (part ∷ next ∷ parts) = EndsSome (next ∷ parts)

-- such parts with one more in front, or with a byte more in the first
EndsSome-cons : (part : List ℕ) (parts : List (List ℕ)) → EndsSome parts → EndsSome (part ∷ parts)
EndsSome-cons part [] ends = absurd ends
EndsSome-cons part (next ∷ parts) ends = ends

EndsSome-onto_first : (b : ℕ) (parts : List (List ℕ)) → EndsSome parts → EndsSome (onto_first b parts)
EndsSome-onto_first b [] ends = absurd ends
EndsSome-onto_first b (part ∷ []) ends = omega (arith, ends)
EndsSome-onto_first b (part ∷ next ∷ parts) ends = ends

-- whether the last byte, where there is one, is not a separator
abbrev pub ends_open : (ℕ → Bool) → List ℕ → Bool
ends_open p [] = false
ends_open p (b ∷ []) = not (p b)
ends_open p (b ∷ c ∷ bs) = ends_open p (c ∷ bs)

-- the parts of such a text
EndsSome-slice_split : (p : ℕ → Bool) (xs : List ℕ) → ends_open p xs ≡ true → EndsSome (slice_split p xs)
EndsSome-slice_split p [] ends = absurd (let no : false ≡ true = ends in cc)
EndsSome-slice_split p (b ∷ []) ends = at (p b) ends
  where
    at : (t : Bool) → not t ≡ true → EndsSome (cond t ([] ∷ [] ∷ []) ((b ∷ []) ∷ []))
    at true e = absurd cc
    at false e = omega arith
EndsSome-slice_split p (b ∷ c ∷ xs) ends = at (p b) (EndsSome-slice_split p (c ∷ xs) ends)
  where
    at : (t : Bool) → EndsSome (slice_split p (c ∷ xs)) → EndsSome (cond t ([] ∷ slice_split p (c ∷ xs)) (onto_first b (slice_split p (c ∷ xs))))
    at true rest = EndsSome-cons [] (slice_split p (c ∷ xs)) rest
    at false rest = EndsSome-onto_first b (slice_split p (c ∷ xs)) rest

-- the lines of such parts, where all are good
lines_of_parts-open : (parts : List (List ℕ)) → EndsSome parts → AllByRecursion IsGoodLine (lines_of_parts parts) → map strip_carriage_return parts ≡ lines_of_parts parts
lines_of_parts-open [] ends good = absurd ends
lines_of_parts-open (part ∷ []) ends good =
    let some : eqb (length part) 0 ≡ false = ne_eqb (length part) 0 (λ e. omega (arith, e, ends)) in
    let here : lines_of_parts (part ∷ []) ≡ part ∷ [] = rw some refl in
    let all : AllByRecursion IsGoodLine (part ∷ []) = subst (λ (ls : List (List ℕ)). AllByRecursion IsGoodLine ls) here good in
    ap (λ (line : List ℕ). line ∷ []) (strip-good part ends all.0) ∙ sym here
lines_of_parts-open (part ∷ next ∷ parts) ends good = ap (λ (rest : List (List ℕ)). strip_carriage_return part ∷ rest) (lines_of_parts-open (next ∷ parts) ends good.1)

-- a text that does not end with a newline, a newline, and another text
pub lines-open : (text rest : List ℕ) → ends_open is_newline text ≡ true → AllByRecursion IsGoodLine (lines text) → lines (text ++ 10 ∷ rest) ≡ lines text ++ lines rest
lines-open text rest ends good =
    lines-newline text rest
    ∙ ap (λ (front : List (List ℕ)). front ++ lines rest) (lines_of_parts-open (slice_split is_newline text) (EndsSome-slice_split is_newline text ends) good)

-- the last byte of such a text
ends_open-last : (p : ℕ → Bool) (b : ℕ) (bs : List ℕ) → p (get_or (b ∷ bs) (length (b ∷ bs) - 1) 0) ≡ false → ends_open p (b ∷ bs) ≡ true
ends_open-last p b [] last = rw last refl
ends_open-last p b (c ∷ bs) last =
    let next : length (b ∷ c ∷ bs) - 1 ≡ suc (length (c ∷ bs) - 1) = omega arith in
    ends_open-last p c bs (subst (λ (i : ℕ). p (get_or (b ∷ c ∷ bs) i 0) ≡ false) next last)

-- a text whose last byte is a newline
ended-last : (b : ℕ) (bs : List ℕ) → is_newline (get_or (b ∷ bs) (length (b ∷ bs) - 1) 0) ≡ true → take (length (b ∷ bs) - 1) (b ∷ bs) ++ 10 ∷ [] ≡ b ∷ bs
ended-last b bs last =
    let text = b ∷ bs in
    let n = length text - 1 in
    let within : n + 1 ≡ length text = omega arith in
    ap (λ (x : ℕ). take n text ++ x ∷ []) (sym (eqb-true (get_or text n 0) 10 last))
    ∙ sym (take_at_read text n 0 (omega (arith, within))).1
    ∙ ap (λ (k : ℕ). take k text) within
    ∙ take_all (length text) text (omega arith)

-- a text with the newline that its last line lacks, and another text
pub lines-whole_lines : (text rest : List ℕ) → 0 < length text → AllByRecursion IsGoodLine (lines text) → lines (whole_lines text ++ rest) ≡ lines text ++ lines rest
lines-whole_lines [] rest some good = absurd (omega (arith, some))
lines-whole_lines (b ∷ bs) rest some good = at (ends_line (b ∷ bs)) refl
  where
    at : (ends : Bool) → ends_line (b ∷ bs) ≡ ends → lines (((b ∷ bs) ++ cond ends [] (10 ∷ [])) ++ rest) ≡ lines (b ∷ bs) ++ lines rest
    at true is =
        ap (λ (text : List ℕ). lines (text ++ rest)) (append-nil (b ∷ bs))
        ∙ subst (λ (text : List ℕ). lines (text ++ rest) ≡ lines text ++ lines rest) (ended-last b bs is) (lines-ended (take (length (b ∷ bs) - 1) (b ∷ bs)) rest)
    at false is = ap lines (append_assoc (b ∷ bs) (10 ∷ []) rest) ∙ lines-open (b ∷ bs) rest (ends_open-last is_newline b bs is) good
