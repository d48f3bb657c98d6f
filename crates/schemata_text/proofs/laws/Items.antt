-- The items of a text, one after the other.
use Rattle.std.proofs.Common.{◌≡◌, ℕ, ◌<◌, Bool, true, false, cond, List, [], ◌∷◌, ◌++◌, length, map, Ok, Err, refl, sym, ap, ◌∙◌, arith, inl, inr}
use Rattle.std.specs.List.{list_any, slice_split, onto_first, before_first, after_first, flat_map}
use Rattle.std.proofs.lemmas.Bool.{cases_Bool}
use Rattle.std.proofs.lemmas.List.Splits.{length-slice_split}
use Rattle.std.proofs.lemmas.List.Concat.{flat_map-cons}
use Rattle.cbm.specs.declared.geometry.Geometry.{Geometry}
use Rattle.lists.proofs.Cuts.{slice_split-none, slice_split-some, before_first-none as whole}
use Rattle.schemata_text.specs.declared.assignment.Assignment.{Assignment}
use Rattle.schemata_text.specs.declared.fault.TextFault.{TextFault}
use Rattle.schemata_text.specs.Items.{Item, Entry, Line, newline, semicolon, without_empty_last, items_of_rest, items_of_line, items_of}
use Rattle.schemata_text.specs.Reading.{line_of, entry_of, reading_from, Continues}

-- ---- the entries of a rest

-- a rest with no `;` is one entry
pub items_of_rest-last : (rest : List ℕ) → list_any semicolon rest ≡ false → items_of_rest rest ≡ Entry rest ∷ []
items_of_rest-last rest h = rw (slice_split-none semicolon rest h) refl

-- a rest that ends with its first `;` is the entry before it
pub items_of_rest-closed : (rest : List ℕ) → list_any semicolon rest ≡ true → after_first semicolon rest ≡ [] → items_of_rest rest ≡ Entry (before_first semicolon rest) ∷ []
items_of_rest-closed rest h e = rw (slice_split-some semicolon rest h, e) refl

-- a piece before the pieces of a text that is not empty is not the last
without_empty_last-cons : (x : List ℕ) (b : ℕ) (bs : List ℕ) → without_empty_last (x ∷ slice_split semicolon (b ∷ bs)) ≡ x ∷ without_empty_last (slice_split semicolon (b ∷ bs))
without_empty_last-cons x b bs = step (semicolon b) (slice_split semicolon bs) (some bs)
  where
    some : (bs : List ℕ) → 0 < length (slice_split semicolon bs)
    some bs = omega (arith, length-slice_split semicolon bs)

    step : (t : Bool) (pieces : List (List ℕ)) → 0 < length pieces → without_empty_last (x ∷ cond t ([] ∷ pieces) (onto_first b pieces)) ≡ x ∷ without_empty_last (cond t ([] ∷ pieces) (onto_first b pieces))
    step true [] h = absurd (omega arith)
    step true (y ∷ ys) h = refl
    step false [] h = refl
    step false (y ∷ ys) h = refl

-- another rest is its first entry and those after its `;`
pub items_of_rest-more : (rest : List ℕ) (b : ℕ) (bs : List ℕ) → list_any semicolon rest ≡ true → after_first semicolon rest ≡ b ∷ bs → items_of_rest rest ≡ Entry (before_first semicolon rest) ∷ items_of_rest (b ∷ bs)
items_of_rest-more rest b bs h e = rw (slice_split-some semicolon rest h, e) (ap (map Entry) (without_empty_last-cons (before_first semicolon rest) b bs))

-- ---- what one entry adds

-- a good entry adds its assignment
pub reading_from-entry : (g : Geometry) (domains : ℕ) (before : List Assignment) (entry : List ℕ) (a : Assignment) (items : List Item) → entry_of g domains before entry ≡ Ok a → reading_from g domains before (Entry entry ∷ items) ≡ reading_from g domains (before ++ a ∷ []) items
unfolding reading_from
reading_from-entry g domains before entry a items h = rw h refl

-- a bad one is the fault of the text
pub reading_from-entry_fault : (g : Geometry) (domains : ℕ) (before : List Assignment) (entry : List ℕ) (f : TextFault) (items : List Item) → entry_of g domains before entry ≡ Err f → reading_from g domains before (Entry entry ∷ items) ≡ Err f
unfolding reading_from
reading_from-entry_fault g domains before entry f items h = rw h refl

-- ---- items one after the other

-- the first entry fails
pub Continues-fault : (g : Geometry) (domains : ℕ) (before after : List Assignment) (rest : List ℕ) (f : TextFault) → Continues g domains before (Entry (before_first semicolon rest) ∷ []) (Err f) after → Continues g domains before (items_of_rest rest) (Err f) after
Continues-fault g domains before after rest f said more = elim (cases_Bool (list_any semicolon rest)) [
  | inl has ↦ step (after_first semicolon rest) refl has
  | inr hasnt ↦ ap (λ (items : List Item). reading_from g domains before (items ++ more)) (items_of_rest-last rest hasnt ∙ ap (λ (e : List ℕ). Entry e ∷ []) (sym (whole semicolon rest hasnt))) ∙ said more
]
  where
    step : (tail : List ℕ) → tail ≡ after_first semicolon rest → list_any semicolon rest ≡ true → reading_from g domains before (items_of_rest rest ++ more) ≡ Err f
    step [] e has = ap (λ (items : List Item). reading_from g domains before (items ++ more)) (items_of_rest-closed rest has (sym e)) ∙ said more
    step (b ∷ bs) e has = ap (λ (items : List Item). reading_from g domains before (items ++ more)) (items_of_rest-more rest b bs has (sym e)) ∙ said (items_of_rest (b ∷ bs) ++ more)

-- the first entry is the last
pub Continues-last : (g : Geometry) (domains : ℕ) (before after : List Assignment) (rest : List ℕ) (u : Unit {0}) → list_any semicolon rest ≡ false → Continues g domains before (Entry (before_first semicolon rest) ∷ []) (Ok u) after → Continues g domains before (items_of_rest rest) (Ok u) after
Continues-last g domains before after rest u hasnt said more = ap (λ (items : List Item). reading_from g domains before (items ++ more)) (items_of_rest-last rest hasnt ∙ ap (λ (e : List ℕ). Entry e ∷ []) (sym (whole semicolon rest hasnt))) ∙ said more

-- the first entry is the last, and has a `;`
pub Continues-closed : (g : Geometry) (domains : ℕ) (before after : List Assignment) (rest : List ℕ) (u : Unit {0}) → list_any semicolon rest ≡ true → after_first semicolon rest ≡ [] → Continues g domains before (Entry (before_first semicolon rest) ∷ []) (Ok u) after → Continues g domains before (items_of_rest rest) (Ok u) after
Continues-closed g domains before after rest u has e said more = ap (λ (items : List Item). reading_from g domains before (items ++ more)) (items_of_rest-closed rest has e) ∙ said more

-- an entry has others after it
pub reading_from-more_entries : (g : Geometry) (domains : ℕ) (before after : List Assignment) (rest tail : List ℕ) (u : Unit {0}) (more : List Item) → list_any semicolon rest ≡ true → tail ≡ after_first semicolon rest → 0 < length tail → Continues g domains before (Entry (before_first semicolon rest) ∷ []) (Ok u) after → reading_from g domains before (items_of_rest rest ++ more) ≡ reading_from g domains after (items_of_rest tail ++ more)
reading_from-more_entries g domains before after rest [] u more has e some said = absurd (omega arith)
reading_from-more_entries g domains before after rest (b ∷ bs) u more has e some said = ap (λ (items : List Item). reading_from g domains before (items ++ more)) (items_of_rest-more rest b bs has (sym e)) ∙ said (items_of_rest (b ∷ bs) ++ more)

-- ---- lines

-- a good line adds nothing
pub reading_from-line : (g : Geometry) (domains : ℕ) (before : List Assignment) (line : List ℕ) (items : List Item) → line_of line ≡ Ok tt → reading_from g domains before (Line line ∷ items) ≡ reading_from g domains before items
unfolding reading_from
reading_from-line g domains before line items h = rw h refl

-- a bad one is the fault of the text
pub reading_from-line_fault : (g : Geometry) (domains : ℕ) (before : List Assignment) (line : List ℕ) (f : TextFault) (items : List Item) → line_of line ≡ Err f → reading_from g domains before (Line line ∷ items) ≡ Err f
unfolding reading_from
reading_from-line_fault g domains before line f items h = rw h refl

-- a text of one line has the items of this line
pub items_of-last_line : (text : List ℕ) → list_any newline text ≡ false → items_of text ≡ items_of_line (before_first newline text) ++ []
items_of-last_line text hasnt = rw (slice_split-none newline text hasnt, whole newline text hasnt) refl

-- another has those of its first line and those of the others
pub items_of-more_lines : (text : List ℕ) → list_any newline text ≡ true → items_of text ≡ items_of_line (before_first newline text) ++ items_of (after_first newline text)
items_of-more_lines text has = ap (flat_map items_of_line) (slice_split-some newline text has) ∙ flat_map-cons items_of_line (before_first newline text) (slice_split newline (after_first newline text))

-- the first line of a text, and what follows it
pub items_of-first_line : (text : List ℕ) → (items : List Item) × (items_of text ≡ items_of_line (before_first newline text) ++ items)
items_of-first_line text = elim (cases_Bool (list_any newline text)) [
  | inl has ↦ (items_of (after_first newline text), items_of-more_lines text has)
  | inr hasnt ↦ ([], items_of-last_line text hasnt)
]

-- where no item is left, what was read is the answer
pub reading_from-nil : (g : Geometry) (domains : ℕ) (before : List Assignment) → reading_from g domains before [] ≡ Ok before
unfolding reading_from
reading_from-nil g domains before = refl
