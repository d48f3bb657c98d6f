-- The texts of entries: no byte of them is escaped in a string.
use Rattle.std.proofs.Common.{◌≡◌, ℕ, zero, suc, ◌+◌, ◌-◌, ◌/◌, ◌%◌, ◌<◌, ◌≤◌, ◌==◌, Bool, true, false, List, [], ◌∷◌, ◌++◌, length, replicate, Some, None, refl, ◌∙◌, arith, inl, inr}
use Rattle.std.specs.Prelude.{codes, decimal}
use Rattle.std.specs.Fmt.{digit_glyph, digits, digits_onto}
use Rattle.std.proofs.lemmas.Bool.{cases_Bool, cases_lt, le-ltb, lt-ltb, ne_eqb}
use Rattle.std.proofs.lemmas.Grind.{flat_map-append}
use Rattle.cache_core.specs.declared.entry.SliceEntry.{SliceEntry}
use Rattle.cache_core.specs.declared.entry.What.{What}
use Rattle.cache_core.specs.declared.entry.What.TheVariants as whats
use Rattle.json.specs.Print.{escape, escape_byte}
use Rattle.machine.specs.declared.parameters.Parameters.{Parameters}
use Rattle.num_text.specs.Printed.{filled, hexadecimal}
use Rattle.report_pieces.specs.EntryTexts.{entry_place, entry_text, mask_text, owner_text, place_text, tag_text, way_text, what_text}
use Rattle.schemata_text.specs.Printed.{mask_digits}
use Rattle.machine.specs.Maps.{set_of}

-- no byte of this text is escaped
abbrev IsPlain : List ℕ → Type 0
IsPlain text = escape text ≡ text

-- one text after another
IsPlain-append : (a b : List ℕ) → IsPlain a → IsPlain b → IsPlain (a ++ b)
IsPlain-append a b first second = flat_map-append escape_byte a b ∙ rw (first, second) refl

-- a byte and a text
IsPlain-cons : (c : ℕ) (text : List ℕ) → escape_byte c ≡ c ∷ [] → IsPlain text → IsPlain (c ∷ text)
IsPlain-cons c text here rest = rw (here, rest) refl

-- ---- digits

-- a byte that is neither below 35 nor a backslash
escape_byte-other : (c : ℕ) → 35 ≤ c → (c ≡ 92 → ⊥) → escape_byte c ≡ c ∷ []
unfolding escape_byte
escape_byte-other c least other =
    rw (
      ne_eqb c 34 (λ e. absurd (omega (arith, e))),
      ne_eqb c 92 other,
      ne_eqb c 8 (λ e. absurd (omega (arith, e))),
      ne_eqb c 12 (λ e. absurd (omega (arith, e))),
      ne_eqb c 10 (λ e. absurd (omega (arith, e))),
      ne_eqb c 13 (λ e. absurd (omega (arith, e))),
      ne_eqb c 9 (λ e. absurd (omega (arith, e))),
      le-ltb c 32 (omega arith),
    ) refl

-- a digit
escape_byte-glyph : (d : ℕ) → d < 16 → escape_byte (digit_glyph false d) ≡ digit_glyph false d ∷ []
escape_byte-glyph d small = elim (cases_lt d 10) [
  | inl low ↦ rw (lt-ltb d 10 low) (escape_byte-other (48 + d) (omega arith) (λ e. absurd (omega (arith, e))))
  | inr high ↦ rw (le-ltb d 10 high) (escape_byte-other (87 + d) (omega arith) (λ e. absurd (omega (arith, e))))
]

-- digits in a base, before a text
IsPlain-digits_onto : (k base n : ℕ) (text : List ℕ) → ((m : ℕ) → m % base < 16) → IsPlain text → IsPlain (digits_onto k base false n text)
IsPlain-digits_onto zero base n text small plain = plain
IsPlain-digits_onto (suc k) base n text small plain = elim (cases_Bool (n / base == 0)) [
  | inl last ↦ rw last (IsPlain-cons (digit_glyph false (n % base)) text (escape_byte-glyph (n % base) (small n)) plain)
  | inr more ↦ rw more (IsPlain-digits_onto k base (n / base) (digit_glyph false (n % base) ∷ text) small (IsPlain-cons (digit_glyph false (n % base)) text (escape_byte-glyph (n % base) (small n)) plain))
]

-- a number in decimal
IsPlain-decimal : (n : ℕ) → IsPlain (decimal n)
unfolding digits
IsPlain-decimal n = IsPlain-digits_onto 64 10 n [] (λ m. omega arith) refl

-- a number in hexadecimal
IsPlain-hexadecimal : (width n : ℕ) → IsPlain (hexadecimal width n)
unfolding filled digits escape_byte
IsPlain-hexadecimal width n = zeros (width - length (digits 16 false n)) (IsPlain-digits_onto 64 16 n [] (λ m. omega arith) refl)
  where
    zeros : (count : ℕ) → IsPlain (digits 16 false n) → IsPlain (replicate count 48 ++ digits 16 false n)
    zeros zero plain = plain
    zeros (suc count) plain = IsPlain-cons 48 (replicate count 48 ++ digits 16 false n) refl (zeros count plain)

-- ---- entries

-- a word and a number in decimal
IsPlain-number : (word : List ℕ) (n : ℕ) → IsPlain word → IsPlain (word ++ decimal n)
IsPlain-number word n plain = IsPlain-append word (decimal n) plain (IsPlain-decimal n)

-- a mask
IsPlain-mask_text : (m : Parameters) (mask : ℕ) → IsPlain (mask_text m mask)
unfolding escape_byte
IsPlain-mask_text m mask = IsPlain-append (codes " mask ") (hexadecimal (mask_digits m.ways) mask) refl (IsPlain-hexadecimal (mask_digits m.ways) mask)

-- whose an access is
IsPlain-owner_text : (gid rmid : ℕ) → IsPlain (owner_text gid rmid)
unfolding escape_byte
IsPlain-owner_text gid rmid =
    IsPlain-number (codes "access" ++ codes " group " ++ decimal gid ++ codes " rmid ") rmid (IsPlain-append (codes "access" ++ codes " group " ++ decimal gid) (codes " rmid ") (IsPlain-number (codes "access" ++ codes " group ") gid refl) refl)

-- where an access was
IsPlain-place_text : (m : Parameters) (line : ℕ) (hit : Bool) (way : ℕ) → IsPlain (place_text m line hit way)
unfolding escape_byte
IsPlain-place_text m line hit way =
    IsPlain-append (codes " set " ++ decimal (set_of m line) ++ codes " line " ++ decimal line) (way_text hit way)
    (IsPlain-number (codes " set " ++ decimal (set_of m line) ++ codes " line ") line
    (IsPlain-append (codes " set " ++ decimal (set_of m line)) (codes " line ") (IsPlain-number (codes " set ") (set_of m line) refl) refl)) (of_way hit)
  where
    of_way : (h : Bool) → IsPlain (way_text h way)
    of_way true = IsPlain-number (codes " hit way ") way refl
    of_way false = IsPlain-number (codes " fill way ") way refl

-- what happened
IsPlain-what_text : (m : Parameters) (what : What) → IsPlain (what_text m what)
unfolding escape_byte
IsPlain-what_text m (whats.Access hit way owner rmid mask line) =
    IsPlain-append (tag_text m owner.0 rmid mask) (place_text m line hit way) (IsPlain-append (owner_text owner.0 rmid) (mask_text m mask) (IsPlain-owner_text owner.0 rmid) (IsPlain-mask_text m mask)) (IsPlain-place_text m line hit way)
IsPlain-what_text m whats.Raise = refl
IsPlain-what_text m whats.Flush = refl
IsPlain-what_text m (whats.Lock mask first_line) =
    IsPlain-number (codes "lock" ++ mask_text m mask ++ codes " first ") first_line
    (IsPlain-append (codes "lock" ++ mask_text m mask) (codes " first ") (IsPlain-append (codes "lock") (mask_text m mask) refl (IsPlain-mask_text m mask)) refl)
IsPlain-what_text m (whats.Look rmid lines) =
    IsPlain-number (codes "look rmid " ++ decimal rmid ++ codes " lines ") lines (IsPlain-append (codes "look rmid " ++ decimal rmid) (codes " lines ") (IsPlain-number (codes "look rmid ") rmid refl) refl)
IsPlain-what_text m (whats.Drop line (Some way)) =
    IsPlain-number (codes "drop line " ++ decimal line ++ codes " way ") way (IsPlain-append (codes "drop line " ++ decimal line) (codes " way ") (IsPlain-number (codes "drop line ") line refl) refl)
IsPlain-what_text m (whats.Drop line None) = IsPlain-append (codes "drop line " ++ decimal line) (codes " none") (IsPlain-number (codes "drop line ") line refl) refl

-- where an entry stands
IsPlain-entry_place : (p : ℕ) (e : SliceEntry) → IsPlain (entry_place p e)
unfolding escape_byte
IsPlain-entry_place p e =
    let to_thread : List ℕ = decimal p ++ codes " " in
    let to_op : List ℕ = to_thread ++ decimal e.thread ++ codes "." in
    let to_epoch : List ℕ = to_op ++ decimal e.op ++ codes " e" in
    IsPlain-append (to_epoch ++ decimal e.epoch) (codes " ")
    (IsPlain-number to_epoch e.epoch (IsPlain-append (to_op ++ decimal e.op) (codes " e") (IsPlain-number to_op e.op
    (IsPlain-append (to_thread ++ decimal e.thread) (codes ".") (IsPlain-number to_thread e.thread (IsPlain-append (decimal p) (codes " ") (IsPlain-decimal p) refl)) refl)) refl)) refl

-- an entry
pub escape-entry_text : (m : Parameters) (p : ℕ) (e : SliceEntry) → escape (entry_text m p e) ≡ entry_text m p e
unfolding entry_text
escape-entry_text m p e = IsPlain-append (entry_place p e) (what_text m e.what) (IsPlain-entry_place p e) (IsPlain-what_text m e.what)
