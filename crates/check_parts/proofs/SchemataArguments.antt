-- The arguments of what stands against a text of `schemata` are numbers of 64 bits.
use Rattle.std.proofs.Common.{◌≡◌, ℕ, ◌^◌, ◌<◌, ◌≤◌, Bool, true, false, not, List, [], ◌∷◌, ◌++◌, length, Option, Some, None, Result, Ok, Err, refl, arith}
use Rattle.std.specs.List.{list_any, before_first, after_first}
use Rattle.std.specs.Option.{ok_or}
use Rattle.std.specs.Prelude.{◌==◌, codes}
use Rattle.cbm.specs.Validity.{checked}
use Rattle.cbm.specs.declared.fault.CbmFault.{CbmFault}
use Rattle.cbm.specs.declared.geometry.Geometry.{Geometry}
use Rattle.mode_rules.specs.declared.overlap.Overlap.TheVariants as overlaps
use Rattle.mode_rules.specs.declared.overlap.Overlap.{Overlap}
use Rattle.num_text.proofs.laws.Limits.{below-lt}
use Rattle.num_text.specs.Blanks.{trim}
use Rattle.num_text.specs.Numbers.{below, dec_of, hex_of}
use Rattle.num_text.specs.Signs.{equals}
use Rattle.rc_base.specs.Faults.{◌>>=◌, fault_if}
use Rattle.rc_base.specs.Texts.{is_text}
use Rattle.schemata_text.specs.Items.{Entry, Item, Line, colon}
use Rattle.schemata_text.specs.Reading.{domain_of, entry_of, is_of, line_of, mask_of, mask_said, reading_from}
use Rattle.schemata_text.specs.declared.assignment.Assignment.{Assignment}
use Rattle.schemata_text.specs.declared.fault.TextFault.TheVariants as texts
use Rattle.schemata_text.specs.declared.fault.TextFault.{TextFault}
use Rattle.tree_law.proofs.laws.Readings.{ok_or-Ok}
use Rattle.tree_law.specs.commands.Schemata as schemata
use Rattle.check_parts.proofs.SmallReasons.{IsSmall}

-- the argument of a fault is one of 64 bits
abbrev pub IsSmallFault : TextFault → Type 0
IsSmallFault texts.NoColon = Unit {0}
IsSmallFault texts.BadResource = Unit {0}
IsSmallFault texts.NoValue = Unit {0}
IsSmallFault texts.NoEquals = Unit {0}
IsSmallFault texts.BadDomain = Unit {0}
IsSmallFault (texts.Twice domain) = domain < 2 ^ 64
IsSmallFault texts.NotHex = Unit {0}
IsSmallFault (texts.Mask bits fault) = bits < 2 ^ 64

-- so it is where there is a fault
abbrev pub IsSmallIn : {A : Type 0} → Result A TextFault → Type 0
IsSmallIn (Ok x) = Unit {0}
IsSmallIn (Err fault) = IsSmallFault fault

pub IsSmallIn-bind : {A B : Type 0} (r : Result A TextFault) (f : A → Result B TextFault) → IsSmallIn r → ((x : A) → r ≡ Ok x → IsSmallIn (f x)) → IsSmallIn (r >>= f)
IsSmallIn-bind (Ok x) f first then = then x refl
IsSmallIn-bind (Err fault) f first then = first

pub IsSmallIn-fault_if : (b : Bool) (fault : TextFault) → IsSmallFault fault → IsSmallIn (fault_if b fault)
IsSmallIn-fault_if true fault small = small
IsSmallIn-fault_if false fault small = tt

pub IsSmallIn-ok_or : {A : Type 0} (o : Option A) (fault : TextFault) → IsSmallFault fault → IsSmallIn (ok_or o fault)
IsSmallIn-ok_or None fault small = small
IsSmallIn-ok_or (Some x) fault small = tt

pub IsSmallIn-mask_said : (bits : ℕ) (r : Result ℕ CbmFault) → bits < 2 ^ 64 → IsSmallIn (mask_said bits r)
IsSmallIn-mask_said bits (Ok mask) small = tt
IsSmallIn-mask_said bits (Err fault) small = small

-- that of a line
pub IsSmallIn-line_of : (line : List ℕ) → IsSmallIn (line_of line)
unfolding line_of
IsSmallIn-line_of line = at (not (list_any colon line)) (not (is_text (trim (before_first colon line)) (codes "L3"))) (length (trim (after_first colon line)) == 0)
  where
    at : (a b c : Bool) → IsSmallIn (fault_if a texts.NoColon >>= λ x. fault_if b texts.BadResource >>= λ y. fault_if c texts.NoValue)
    at true b c = tt
    at false true c = tt
    at false false true = tt
    at false false false = tt

-- that of an entry
pub IsSmallIn-entry_of : (g : Geometry) (domains : ℕ) (before : List Assignment) (entry : List ℕ) → domains ≤ 8 → IsSmallIn (entry_of g domains before entry)
unfolding entry_of
IsSmallIn-entry_of g domains before entry few =
    IsSmallIn-bind (fault_if (not (list_any equals entry)) texts.NoEquals) _ (IsSmallIn-fault_if (not (list_any equals entry)) texts.NoEquals tt)
    (λ a one. IsSmallIn-bind (domain_of domains (before_first equals entry)) _ (IsSmallIn-ok_or (below domains (dec_of (trim (before_first equals entry)))) texts.BadDomain tt)
    (λ domain two. IsSmallIn-bind (fault_if (list_any (is_of domain) before) (texts.Twice domain)) _ (IsSmallIn-fault_if (list_any (is_of domain) before) (texts.Twice domain)
    (let lt = below-lt domains (dec_of (trim (before_first equals entry))) domain (ok_or-Ok (below domains (dec_of (trim (before_first equals entry)))) texts.BadDomain domain two) in omega (arith, lt, few)))
    (λ b three. IsSmallIn-bind (ok_or (below (2 ^ 64) (hex_of (trim (after_first equals entry)))) texts.NotHex) _ (IsSmallIn-ok_or (below (2 ^ 64) (hex_of (trim (after_first equals entry)))) texts.NotHex tt)
    (λ bits four. IsSmallIn-bind (mask_of g bits) _ (IsSmallIn-mask_said bits (checked g bits)
    (below-lt (2 ^ 64) (hex_of (trim (after_first equals entry))) bits (ok_or-Ok (below (2 ^ 64) (hex_of (trim (after_first equals entry)))) texts.NotHex bits four)))
    (λ mask five. tt)))))

-- that of a text
pub IsSmallIn-reading_from : (g : Geometry) (domains : ℕ) (before : List Assignment) (items : List Item) → domains ≤ 8 → IsSmallIn (reading_from g domains before items)
unfolding reading_from
IsSmallIn-reading_from g domains before [] few = tt
IsSmallIn-reading_from g domains before (Line line ∷ items) few = IsSmallIn-bind (line_of line) (λ _. reading_from g domains before items) (IsSmallIn-line_of line) (λ x is. IsSmallIn-reading_from g domains before items few)
IsSmallIn-reading_from g domains before (Entry entry ∷ items) few =
    IsSmallIn-bind (entry_of g domains before entry) (λ a. reading_from g domains (before ++ a ∷ []) items) (IsSmallIn-entry_of g domains before entry few) (λ a is. IsSmallIn-reading_from g domains (before ++ a ∷ []) items few)

pub IsSmall-text_refusal : (fault : TextFault) → IsSmallFault fault → IsSmall (Some (schemata.text_refusal fault))
IsSmall-text_refusal texts.NoColon small = omega arith
IsSmall-text_refusal texts.BadResource small = omega arith
IsSmall-text_refusal texts.NoValue small = omega arith
IsSmall-text_refusal texts.NoEquals small = omega arith
IsSmall-text_refusal texts.BadDomain small = omega arith
IsSmall-text_refusal (texts.Twice domain) small = small
IsSmall-text_refusal texts.NotHex small = omega arith
IsSmall-text_refusal (texts.Mask bits fault) small = small

-- ---- what stands against masks

pub IsSmall-against_overlap : (domain : ℕ) (r : Result (Unit {0}) Overlap) → domain ≤ 8 → IsSmall (schemata.against_overlap domain r)
IsSmall-against_overlap domain (Ok u) few = tt
IsSmall-against_overlap domain (Err overlaps.Exclusive) few = omega arith
IsSmall-against_overlap domain (Err overlaps.Region) few = omega arith
IsSmall-against_overlap domain (Err overlaps.Other) few = omega arith
IsSmall-against_overlap domain (Err overlaps.Hardware) few = omega arith
IsSmall-against_overlap domain (Err overlaps.HasRegion) few = omega (arith, few)
