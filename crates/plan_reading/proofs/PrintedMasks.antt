-- The bytes of the masks of a plan, as they are written: few, and each one that a line can have.
use Rattle.std.proofs.Common.{◌≡◌, ℕ, zero, suc, ◌+◌, ◌-◌, ◌*◌, ◌^◌, ◌<◌, ◌≤◌, Bool, true, false, eqb, not, ◌||◌, ◌&&◌, List, [], ◌∷◌, length, map, get_or, Option, Some, None, refl, sym, ap, subst, ◌∙◌, arith, inl, inr, ◌⊎◌, true≢false, length-append}
use Rattle.std.specs.Prelude.{decimal, slice_index_or}
use Rattle.std.specs.Char.{digit_value}
use Rattle.std.specs.List.{AllByRecursion, list_all, list_any}
use Rattle.std.proofs.lemmas.Bool.{cases_lt, le-ltb, lt-ltb}
use Rattle.std.proofs.lemmas.List.{get_or_past}
use Rattle.std.proofs.lemmas.Nat.{pow_below}
use Rattle.std.proofs.lemmas.List.Folds.{list_any-append}
use Rattle.std.proofs.lemmas.List.FromFn.{length-map-range_with_len}
use Rattle.line_words.specs.Lines.{is_bad}
use Rattle.num_text.proofs.laws.Digits.{AllDigits-decimal, AllDigits-hexadecimal, AllDigits-hexadecimal_digits, list_any-digits}
use Rattle.num_text.proofs.laws.Pieces.{list_any-join_with_byte}
use Rattle.num_text.proofs.laws.Prints.{length-decimal}
use Rattle.num_text.specs.Printed.{hexadecimal}
use Rattle.run_law.specs.Journals.{JournalsValue}
use Rattle.run_law.specs.TreeHistory.{tree_after}
use Rattle.schemata_text.proofs.laws.Entries.{length-hexadecimal_mask, others_text, printed-none, printed-some}
use Rattle.schemata_text.specs.Printed.{entry_text, mask_digits, printed}
use Rattle.schemata_text.specs.declared.assignment.Assignment.{Assignment}
use Rattle.script_ops.specs.Values.{ScriptValue}
use Rattle.way_plans.specs.AnyOrder.{IsDivisionInAnyOrder}
use Rattle.way_plans.specs.Divisions.{IsDivision, IsSpan, end}
use Rattle.way_plans.specs.Masks.{mask_of, span_at}
use Rattle.way_plans.specs.Orders.{IsBestIfAnyIn}
use Rattle.way_plans.specs.PlanTexts.{DomainPart, masks_at}
use Rattle.way_plans.specs.Planned.{ArePartsFrom, order_in}
use Rattle.way_plans.specs.Plans.{free_ways, is_free, misses_in, planned}
use Rattle.way_plans.specs.declared.order.Order.{Order}
use Rattle.way_plans.specs.declared.order.Order.TheVariants.{Any, Creation}
use Rattle.way_plans.specs.declared.span.Span.{Span}
use Rattle.plan_reading.specs.GroupWrites.{is_text_byte}

-- ---- the masks

-- no ways
abbrev no_ways : Span
no_ways = record { first = 0; count = 0 }

-- a span that ends at way 32 or before
abbrev IsShortSpan : Span → Type 0
IsShortSpan span = end span ≤ 32

-- powers of two rise
pow-le : (i j : ℕ) → i ≤ j → 2 ^ i ≤ 2 ^ j
pow-le i j le = elim (cases_lt i j) [
  | inl less ↦ let below = pow_below i j less in omega (arith, below)
  | inr not ↦ let same : i ≡ j = omega (arith, le, not) in subst (λ k. 2 ^ i ≤ 2 ^ k) same (omega arith)
]

-- its mask has at most 32 bits
mask_of-small : (span : Span) → IsShortSpan span → mask_of span < 2 ^ 32
mask_of-small span short =
    let whole = pow-le (span.first + span.count) 32 short in
    let some : 1 ≤ 2 ^ span.first = pow-le 0 span.first (omega arith) in
    omega (arith, whole, some)

-- free ways are below 32, where there are so many tests
IsShortSpan-free : (free : List Bool) (least from : ℕ) (span : Span) → length free ≤ 32 → 0 < least → IsSpan free least from span → IsShortSpan span
IsShortSpan-free free least from span few some is = at (cases_lt (span.first + span.count - 1) (length free))
  where
    last : get_or free (span.first + span.count - 1) false ≡ true
    last = is.free_ways (span.first + span.count - 1) (omega (arith, some, is.enough)) (omega (arith, some, is.enough))

    at : (span.first + span.count - 1 < length free) ⊎ (length free ≤ span.first + span.count - 1) → IsShortSpan span
    at (inl lt) = omega (arith, lt, few)
    at (inr le) = absurd (true≢false (sym last ∙ get_or_past free (span.first + span.count - 1) false le))

-- each span of a division is such
IsShortSpan-division : (free : List Bool) (least : ℕ) (groups : List (List ℕ)) (spans : List Span) → length free ≤ 32 → 0 < least → IsDivisionInAnyOrder free least groups spans → (place : ℕ) → IsShortSpan (get_or spans place no_ways)
IsShortSpan-division free least groups spans few some division place = at (cases_lt place (length spans))
  where
    at : (place < length spans) ⊎ (length spans ≤ place) → IsShortSpan (get_or spans place no_ways)
    at (inl lt) = IsShortSpan-free free least 0 (get_or spans place no_ways) few some (division.each place no_ways lt)
    at (inr le) = subst IsShortSpan (sym (get_or_past spans place no_ways le)) (omega arith)

-- so is each of a division in order
IsShortSpan-in_order : (free : List Bool) (least from : ℕ) (groups : List (List ℕ)) (spans : List Span) → length free ≤ 32 → 0 < least → IsDivision free least from groups spans → (place : ℕ) → IsShortSpan (get_or spans place no_ways)
IsShortSpan-in_order free least from [] [] few some is place = omega arith
IsShortSpan-in_order free least from [] (span ∷ spans) few some is place = absurd is
IsShortSpan-in_order free least from (group ∷ groups) [] few some is place = absurd is
IsShortSpan-in_order free least from (group ∷ groups) (span ∷ spans) few some is zero = IsShortSpan-free free least from span few some is.0
IsShortSpan-in_order free least from (group ∷ groups) (span ∷ spans) few some is (suc place) = IsShortSpan-in_order free least (end span) groups spans few some is.1 place

-- and of the best one, if there is one
IsShortSpan-best : (order : Order) (free : List Bool) (least : ℕ) (groups : List (List ℕ)) (spans : Option (List Span)) → length free ≤ 32 → 0 < least → IsBestIfAnyIn order free least groups spans → (place : ℕ) → IsShortSpan (span_at spans place)
IsShortSpan-best order free least groups None few some best place = omega arith
IsShortSpan-best Any free least groups (Some spans) few some best place = IsShortSpan-division free least groups spans few some best.division place
IsShortSpan-best Creation free least groups (Some spans) few some best place = IsShortSpan-in_order free least 0 groups spans few some best.division place

-- an assignment of one of eight domains, with a mask of at most 32 bits
abbrev pub IsSmall : Assignment → Type 0
IsSmall a = (a.domain < 8) × (a.mask < 2 ^ 32)

-- the masks of a place in the parts of a plan
pub AllSmall-masks_at : (script : ScriptValue) (j : JournalsValue) (place from : ℕ) (parts : List DomainPart) → 0 < script.machine.min → from + length parts ≤ 8 → ArePartsFrom script j from parts → AllByRecursion IsSmall (masks_at place from parts)
AllSmall-masks_at script j place from [] some few are = tt
AllSmall-masks_at script j place from (part ∷ parts) some few are =
    let left = tree_after script j.tree in
    let free = free_ways script.machine left from in
    let ways : length free ≤ 32 = omega (arith, length-map-range_with_len (is_free script.machine (slice_index_or left.regions from None)) 0 32) in (
      (omega (arith, few), mask_of-small (span_at part.spans place) (IsShortSpan-best (order_in script j from) free script.machine.min (misses_in script j from (planned left)) part.spans ways some are.0.division place)),
      AllSmall-masks_at script j place (from + 1) parts some (omega (arith, few)) are.1,
    )

-- how many there are
pub length-masks_at : (place from : ℕ) (parts : List DomainPart) → length (masks_at place from parts) ≡ length parts
length-masks_at place from [] = refl
length-masks_at place from (part ∷ parts) = omega (arith, length-masks_at place (from + 1) parts)

-- ---- their text

-- a digit lies among the visible bytes
is_bad-digit : (c : ℕ) → digit_value c < 16 → is_bad c ≡ false
is_bad-digit c digit = rw (le-ltb c 32 (omega (arith, low)), le-ltb 126 c high) refl
  where
    low : 48 ≤ c
    low = elim (cases_lt c 48) [
      | inl lt ↦ (let none : digit_value c ≡ 36 = rw (lt-ltb c 48 lt) refl in absurd (omega (arith, none, digit)))
      | inr le ↦ le
    ]

    high : c ≤ 126
    high = elim (cases_lt 126 c) [
      | inl lt ↦ (let none : digit_value c ≡ 36 = rw (le-ltb c 48 (omega (arith, lt)), le-ltb c 58 (omega (arith, lt)), le-ltb c 65 (omega (arith, lt)), le-ltb c 91 (omega (arith, lt)), le-ltb c 97 (omega (arith, lt)), le-ltb c 123 (omega (arith, lt))) refl in
          absurd (omega (arith, none, digit)))
      | inr le ↦ le
    ]

-- an entry has no bad byte
list_any-entry_text : (ways : ℕ) (a : Assignment) → IsSmall a → list_any is_bad (entry_text ways a) ≡ false
list_any-entry_text ways a small =
    let dec = decimal a.domain in
    let hex = hexadecimal (mask_digits ways) a.mask in
    list_any-append is_bad dec (61 ∷ hex)
    ∙ rw (list_any-digits is_bad is_bad-digit dec (AllDigits-hexadecimal_digits dec (AllDigits-decimal a.domain (omega (arith, small.0)))), list_any-digits is_bad is_bad-digit hex (AllDigits-hexadecimal (mask_digits ways) a.mask (omega (arith, small.1)))) refl

-- nor have several
list_any-entries : (ways : ℕ) (all : List Assignment) → AllByRecursion IsSmall all → AllByRecursion (λ x. list_any is_bad x ≡ false) (map (entry_text ways) all)
list_any-entries ways [] small = tt
list_any-entries ways (a ∷ all) small = (list_any-entry_text ways a small.0, list_any-entries ways all small.1)

-- so it is of the whole text
list_any-printed : (ways : ℕ) (all : List Assignment) → AllByRecursion IsSmall all → list_any is_bad (printed ways all) ≡ false
unfolding printed
list_any-printed ways all small = list_any-join_with_byte is_bad 59 refl (map (entry_text ways) all) (list_any-entries ways all small)

-- a text without a bad byte may be written
list_all-good : (text : List ℕ) → list_any is_bad text ≡ false → list_all is_text_byte text ≡ true
list_all-good [] good = refl
list_all-good (b ∷ bs) good = at (eqb b 10) (is_bad b) (λ rest. list_all-good bs rest) good
  where
    at : (newline bad : Bool) → (list_any is_bad bs ≡ false → list_all is_text_byte bs ≡ true) → (bad || list_any is_bad bs) ≡ false → ((newline || not bad) && list_all is_text_byte bs) ≡ true
    at newline true later rest = absurd cc
    at true false later rest = later rest
    at false false later rest = later rest

pub list_all-printed : (ways : ℕ) (all : List Assignment) → AllByRecursion IsSmall all → list_all is_text_byte (printed ways all) ≡ true
list_all-printed ways all small = list_all-good (printed ways all) (list_any-printed ways all small)

-- an entry is short
length-entry_text : (ways : ℕ) (a : Assignment) → ways ≤ 32 → IsSmall a → length (entry_text ways a) ≤ 29
length-entry_text ways a le small =
    omega (arith, length-decimal a.domain (omega (arith, small.0)), length-hexadecimal_mask ways a.mask le small.1, length-append (decimal a.domain) (61 ∷ hexadecimal (mask_digits ways) a.mask))

-- so are several
length-others_text : (ways : ℕ) (all : List Assignment) → ways ≤ 32 → AllByRecursion IsSmall all → length (others_text ways all) ≤ 30 * length all
length-others_text ways [] le small = omega arith
length-others_text ways (a ∷ all) le small =
    omega (arith, length-entry_text ways a le small.0, length-others_text ways all le small.1, length-append (59 ∷ entry_text ways a) (others_text ways all))

-- and the whole text
pub length-printed : (ways : ℕ) (all : List Assignment) → ways ≤ 32 → AllByRecursion IsSmall all → length all ≤ 8 → length (printed ways all) ≤ 4096
length-printed ways [] le small few = omega (arith, ap length (printed-none ways))
length-printed ways (a ∷ all) le small few =
    omega (arith, ap length (printed-some ways a all), few, length-entry_text ways a le small.0, length-others_text ways all le small.1, length-append (entry_text ways a) (others_text ways all))
