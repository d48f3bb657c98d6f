-- A printed text is read again.
use Rattle.std.proofs.Common.{◌≡◌, ℕ, ◌^◌, ◌<◌, ◌≤◌, Bool, false, List, [], ◌∷◌, ◌++◌, length, map, Ok, Some, refl, sym, ap, ◌∙◌, arith, append_assoc, length-append}
use Rattle.std.specs.Prelude.{nat_eq}
use Rattle.std.specs.List.{list_any, slice_split, join_with_byte, AllByRecursion}
use Rattle.std.specs.Char.{digit_value}
use Rattle.std.specs.Fmt.{decimal}
use Rattle.std.proofs.lemmas.Bool.{ne_eqb, eqb-false, lt-ltb}
use Rattle.std.proofs.lemmas.List.{append-nil}
use Rattle.std.proofs.lemmas.List.Folds.{list_any-append}
use Rattle.std.proofs.lemmas.Map.Keys.{IsDistinct-head, IsDistinct-tail}
use Rattle.num_text.specs.Signs.{equals}
use Rattle.num_text.specs.Numbers.{dec_of, hex_of}
use Rattle.num_text.specs.Blanks.{is_blank, trim}
use Rattle.cbm.specs.declared.geometry.Geometry.{Geometry}
use Rattle.cbm.specs.Validity.{checked}
use Rattle.schemata_text.specs.declared.assignment.Assignment.{Assignment}
use Rattle.schemata_text.specs.Items.{Item, Entry, newline, semicolon, without_empty_last, items_of, items_of_line, items_of_rest}
use Rattle.schemata_text.specs.Reading.{line_of, entry_of, reading_from, is_of, domains_of, AreLawful}
use Rattle.schemata_text.specs.Printed.{ReadsBack, printed, entry_text, mask_digits}
use Rattle.num_text.specs.Printed.{hexadecimal}
use Rattle.rc_base.specs.Texts.{is_text}
use Rattle.num_text.proofs.laws.Digits.{eqb-digit, is_blank-digit, list_any-digits, AllDigits-hexadecimal_digits, AllDigits-decimal, AllDigits-hexadecimal, trim-none}
use Rattle.num_text.proofs.laws.Pieces.{Cut-append, list_any-join_with_byte, slice_split-join_with_byte}
use Rattle.lists.proofs.Cuts.{slice_split-none}
use Rattle.num_text.proofs.laws.Prints.{decimal_reads_back, hexadecimal_reads_back}
use Rattle.schemata_text.proofs.laws.Items.{reading_from-entry, reading_from-line, reading_from-nil}

-- a test that passes no digit passes nothing of an entry, if not its `=`
list_any-entry_text : (q : ℕ → Bool) (ways : ℕ) (a : Assignment) → ((c : ℕ) → digit_value c < 16 → q c ≡ false) → q 61 ≡ false → a.domain < 8 → a.mask < 2 ^ 32 → list_any q (entry_text ways a) ≡ false
list_any-entry_text q ways a none sep few small =
    let dec = decimal a.domain in
    let hex = hexadecimal (mask_digits ways) a.mask in
    list_any-append q dec (61 ∷ hex) ∙ rw (list_any-digits q none dec (AllDigits-hexadecimal_digits dec (AllDigits-decimal a.domain (omega arith))), sep) (list_any-digits q none hex (AllDigits-hexadecimal (mask_digits ways) a.mask (omega arith)))

-- a printed entry is read again
entry_of-entry_text : (g : Geometry) (domains : ℕ) (before : List Assignment) (a : Assignment) → domains ≤ 8 → a.domain < domains → list_any (is_of a.domain) before ≡ false → a.mask < 2 ^ 32 → checked g a.mask ≡ Ok a.mask → entry_of g domains before (entry_text g.len a) ≡ Ok a
unfolding entry_of
entry_of-entry_text g domains before a few lt fresh small valid =
    let dec = decimal a.domain in
    let hex = hexadecimal (mask_digits g.len) a.mask in
    let fits : a.mask < 2 ^ 64 = omega arith in
    let dec_digits = AllDigits-hexadecimal_digits dec (AllDigits-decimal a.domain (omega arith)) in
    let cut = Cut-append equals dec 61 hex (list_any-digits equals (λ c h. eqb-digit c 61 refl h) dec dec_digits) refl in
    let trim_dec : trim dec ≡ dec = trim-none dec (list_any-digits is_blank is_blank-digit dec dec_digits) in
    let trim_hex : trim hex ≡ hex = trim-none hex (list_any-digits is_blank is_blank-digit hex (AllDigits-hexadecimal (mask_digits g.len) a.mask fits)) in
    let dec_is : dec_of dec ≡ Some a.domain = decimal_reads_back a.domain (omega arith) in
    let hex_is : hex_of hex ≡ Some a.mask = hexadecimal_reads_back (mask_digits g.len) a.mask fits in
    rw (cut.any, cut.before, cut.behind, trim_dec, dec_is, lt-ltb a.domain domains lt, fresh, trim_hex, hex_is, lt-ltb a.mask (2 ^ 64) fits, valid) refl

-- printed entries are read again, after others that name none of their domains
reading_from-entry_texts : (g : Geometry) (domains : ℕ) (before all : List Assignment) → domains ≤ 8 → AreLawful g domains all → AllByRecursion (λ (a : Assignment). a.mask < 2 ^ 32) all → AllByRecursion (λ (a : Assignment). list_any (is_of a.domain) before ≡ false) all
    → reading_from g domains before (map Entry (map (entry_text g.len) all) ++ []) ≡ Ok (before ++ all)
reading_from-entry_texts g domains before [] few lawful small fresh = reading_from-nil g domains before ∙ ap Ok (sym (append-nil before))
reading_from-entry_texts g domains before (a ∷ all) few lawful small fresh =
    reading_from-entry g domains before (entry_text g.len a) a (map Entry (map (entry_text g.len) all) ++ []) (entry_of-entry_text g domains before a few lawful.exist.0 fresh.0 small.0 lawful.valid.0)
    ∙ reading_from-entry_texts g domains (before ++ a ∷ []) all few (record { exist = lawful.exist.1; apart = IsDistinct-tail nat_eq a.domain (domains_of all) lawful.apart; valid = lawful.valid.1 }) small.1 (still all fresh.1 (IsDistinct-head nat_eq a.domain (domains_of all) lawful.apart))
    ∙ ap Ok (append_assoc before (a ∷ []) all)
  where
    still : (xs : List Assignment) → AllByRecursion (λ (b : Assignment). list_any (is_of b.domain) before ≡ false) xs → AllByRecursion (λ d. nat_eq a.domain d ≡ false) (domains_of xs) → AllByRecursion (λ (b : Assignment). list_any (is_of b.domain) (before ++ a ∷ []) ≡ false) xs
    still [] h e = tt
    still (b ∷ xs) h e = (list_any-append (is_of b.domain) before (a ∷ []) ∙ rw (h.0, ne_eqb b.domain a.domain (λ k. eqb-false a.domain b.domain e.0 (sym k))) refl, still xs h.1 e.1)

-- no domain is named before the first entry
AllByRecursion-none_before : (all : List Assignment) → AllByRecursion (λ (a : Assignment). list_any (is_of a.domain) [] ≡ false) all
AllByRecursion-none_before [] = tt
AllByRecursion-none_before (a ∷ all) = (refl, AllByRecursion-none_before all)

-- such a test passes nothing of any of the entries
AllByRecursion-entry_texts : (q : ℕ → Bool) (ways domains : ℕ) (all : List Assignment) → ((c : ℕ) → digit_value c < 16 → q c ≡ false) → q 61 ≡ false → domains ≤ 8 → AllByRecursion (λ d. d < domains) (domains_of all) → AllByRecursion (λ (a : Assignment). a.mask < 2 ^ 32) all → AllByRecursion (λ x. list_any q x ≡ false) (map (entry_text ways) all)
AllByRecursion-entry_texts q ways domains [] none sep few exist small = tt
AllByRecursion-entry_texts q ways domains (a ∷ all) none sep few exist small = (list_any-entry_text q ways a none sep (omega (arith, exist.0)) small.0, AllByRecursion-entry_texts q ways domains all none sep few exist.1 small.1)

-- no printed entry is empty, so none is left out
without_empty_last-entry_texts : (ways : ℕ) (all : List Assignment) → without_empty_last (map (entry_text ways) all) ≡ map (entry_text ways) all
without_empty_last-entry_texts ways [] = refl
without_empty_last-entry_texts ways (a ∷ []) = refl
without_empty_last-entry_texts ways (a ∷ b ∷ all) = step (entry_text ways b) (some (decimal b.domain) (hexadecimal (mask_digits ways) b.mask)) (without_empty_last-entry_texts ways (b ∷ all))
  where
    some : (x y : List ℕ) → 0 < length (x ++ 61 ∷ y)
    some x y = omega (arith, length-append x (61 ∷ y))

    step : (x : List ℕ) → 0 < length x → without_empty_last (x ∷ map (entry_text ways) all) ≡ x ∷ map (entry_text ways) all → without_empty_last (entry_text ways a ∷ x ∷ map (entry_text ways) all) ≡ entry_text ways a ∷ x ∷ map (entry_text ways) all
    step [] pos h = absurd (omega arith)
    step (c ∷ cs) pos h = ap (λ (rest : List (List ℕ)). entry_text ways a ∷ rest) h

-- the text of some entries is not empty
length-join_with_byte_some : (ways : ℕ) (all : List Assignment) → 0 < length all → 0 < length (join_with_byte 59 (map (entry_text ways) all))
length-join_with_byte_some ways [] some = absurd (omega arith)
length-join_with_byte_some ways (a ∷ []) some = omega (arith, length-append (decimal a.domain) (61 ∷ hexadecimal (mask_digits ways) a.mask))
length-join_with_byte_some ways (a ∷ b ∷ all) some = omega (arith, length-append (entry_text ways a) (59 ∷ join_with_byte 59 (map (entry_text ways) (b ∷ all))), length-append (decimal a.domain) (61 ∷ hexadecimal (mask_digits ways) a.mask))

-- what is printed of lawful assignments is read as these
pub reads_back : ReadsBack
unfolding printed line_of is_text
reads_back g domains all len few some lawful small =
    let pieces = map (entry_text g.len) all in
    let rest = join_with_byte 59 pieces in
    let text : List ℕ = 76 ∷ 51 ∷ 58 ∷ rest in
    let one_line : list_any newline text ≡ false = list_any-join_with_byte newline 59 refl pieces (AllByRecursion-entry_texts newline g.len domains all (λ c h. eqb-digit c 10 refl h) refl few lawful.exist small) in
    let no_blank : list_any is_blank rest ≡ false = list_any-join_with_byte is_blank 59 refl pieces (AllByRecursion-entry_texts is_blank g.len domains all is_blank-digit refl few lawful.exist small) in
    let parts : slice_split semicolon rest ≡ pieces = slice_split-join_with_byte semicolon 59 refl pieces (some_pieces all some) (AllByRecursion-entry_texts semicolon g.len domains all (λ c h. eqb-digit c 59 refl h) refl few lawful.exist small) in
    let items : items_of_rest rest ≡ map Entry pieces = ap (λ (ps : List (List ℕ)). map Entry (without_empty_last ps)) parts ∙ ap (map Entry) (without_empty_last-entry_texts g.len all) in
    let lines : items_of text ≡ items_of_line text ++ [] = rw (slice_split-none newline text one_line) refl in
    let good : line_of text ≡ Ok tt = rw (trim-none rest no_blank, ne_eqb (length rest) 0 (not_zero (length rest) (length-join_with_byte_some g.len all some))) refl in
    ap (reading_from g domains []) lines
    ∙ reading_from-line g domains [] text (items_of_rest rest ++ []) good
    ∙ ap (λ (is : List Item). reading_from g domains [] (is ++ [])) items
    ∙ reading_from-entry_texts g domains [] all few lawful small (AllByRecursion-none_before all)
  where
    not_zero : (n : ℕ) → 0 < n → n ≡ 0 → ⊥
    not_zero n h e = omega arith

    some_pieces : (all : List Assignment) → 0 < length all → 0 < length (map (entry_text g.len) all)
    some_pieces [] h = absurd (omega arith)
    some_pieces (a ∷ all) h = omega arith
