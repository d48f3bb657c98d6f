-- The masks of a plan.
use Rattle.std.proofs.Common.{◌≡◌, ℕ, zero, suc, ◌+◌, ◌-◌, ◌^◌, ◌<◌, ◌≤◌, ◌⊎◌, Bool, true, false, cond, List, [], ◌∷◌, ◌++◌, length, get_or, Ok, Err, refl, sym, ap, subst, ◌∙◌, arith, append-nil, zero-add, true≢false, inl, inr}
use Rattle.std.specs.Prelude.{All, Option, filter, map, not, ◌&&◌, nat_le, nat_lt, ◌||◌, ◌==◌}
use Rattle.std.specs.List.{list_any, range_with_len}
use Rattle.std.proofs.lemmas.Bool.{cases_lt, le-ltb, lt-leb, ltb-true, ne_eqb}
use Rattle.std.proofs.lemmas.List.FromFn.{get_or-map-range_with_len, get_or-range_with_len, length-range_with_len}
use Rattle.std.proofs.lemmas.List.{get_or_past}
use Rattle.std.proofs.lemmas.List.Elements.{All-cons}
use Rattle.std.proofs.lemmas.List.Kept.{AllPairs-cons}
use Rattle.std.proofs.lemmas.List.Folds.{list_any_none}
use Rattle.std.proofs.lemmas.Nat.Bits.{bit_at_mask_above, bit_at_mask_below, bit_at_mask_inside}
use Rattle.lists.proofs.Filters.{filter-fails, filter-none, filter-passes}
use Rattle.cbm.specs.Masks.{has_way, lowest_run, overlaps, ways_of}
use Rattle.cbm.specs.Validity.{checked, is_out_of_range}
use Rattle.cbm.specs.declared.fault.CbmFault.TheVariants.{TooFew}
use Rattle.cbm.specs.declared.geometry.Geometry.{Geometry}
use Rattle.cbm.proofs.laws.LowestRuns.{lowest_run-range}
use Rattle.cbm.proofs.laws.Overlaps.{overlaps-apart}
use Rattle.cbm.proofs.laws.Validity.{checked-whole}
use Rattle.cbm.proofs.laws.Ways.{has_way-one, has_way-zero}
use Rattle.machine.specs.declared.parameters.Parameters.{Parameters}
use Rattle.way_plans.specs.Masks.{AreMasksOf, mask_of}
use Rattle.pseudo_lock.specs.declared.region.Region.{Region}
use Rattle.tree_law.specs.Space.{geometry_of}
use Rattle.way_plans.specs.AnyOrder.{AreApart, IsDivisionInAnyOrder}
use Rattle.way_plans.specs.Divisions.{IsDivision, IsSpan, end}
use Rattle.way_plans.specs.declared.span.Span.{Span}
use Rattle.way_plans.specs.Plans.{is_free, is_locked}

-- the ways of the mask of a span
pub ways_of-span : (first count : ℕ) → first + count ≤ 64 → ways_of (2 ^ (first + count) - 2 ^ first) ≡ range_with_len first count
unfolding ways_of
ways_of-span first count le =
    let mask = 2 ^ (first + count) - 2 ^ first in
    let has : ℕ → Bool = has_way mask in
    let low = filter-fails has 0 first 64 (omega (arith, le)) (λ k a b. has_way-zero mask k (bit_at_mask_below first (first + count) k (omega (arith, b)))) in
    let start = ap (λ (n : ℕ). filter has (range_with_len n (64 - first))) (zero-add first) in
    let own = filter-passes has first count (64 - first) (omega (arith, le)) (λ k a b. has_way-one mask k (bit_at_mask_inside first (first + count) k a b)) in
    let high = filter-none has (first + count) (64 - first - count) (λ k a b. has_way-zero mask k (bit_at_mask_above first (first + count) k a)) in
    low ∙ (start ∙ (own ∙ (ap (λ (xs : List ℕ). range_with_len first count ++ xs) high ∙ append-nil (range_with_len first count))))

-- they are side by side
lowest_run-span : (first count : ℕ) → 0 < count → lowest_run (range_with_len first count) ≡ range_with_len first count
lowest_run-span first count some = ap lowest_run (sym (append-nil (range_with_len first count))) ∙ lowest_run-range first count [] some refl

-- none of them is past the last way
in_range-span : (g : Geometry) (first count : ℕ) → 0 < count → first + count ≤ g.len → is_out_of_range g (range_with_len first count) ≡ false
in_range-span g first zero some within = absurd (omega (arith, some))
in_range-span g first (suc count) some within =
    let ways : List ℕ = range_with_len first (suc count) in
    let long : length ways ≡ suc count = length-range_with_len first (suc count) in
    let some_way : (length ways == 0) ≡ false = ne_eqb (length ways) 0 (λ none. absurd (omega (arith, none, long))) in
    let none : list_any (nat_le g.len) ways ≡ false =
    list_any_none (nat_le g.len) ways (λ k d below.
    let k_below : k < suc count = subst (λ (n : ℕ). k < n) long below in
    ap (nat_le g.len) (get_or-range_with_len first (suc count) k d k_below) ∙ lt-leb g.len (first + k) (omega (arith, k_below, within))) in
    ap (λ (b : Bool). b || list_any (nat_le g.len) ways) some_way ∙ none

-- so the mask is valid where the ways are enough
pub checked-span : (g : Geometry) (span : Span) → 0 < span.count → span.first + span.count ≤ g.len → g.len ≤ 32 → g.min ≤ span.count → checked g (mask_of span) ≡ Ok (mask_of span)
checked-span g span some within few enough =
    let mask = mask_of span in
    let first = span.first in
    let count = span.count in
    let ways : ways_of mask ≡ range_with_len first count = ways_of-span first count (omega (arith, within, few)) in
    let run : ways_of mask ≡ lowest_run (ways_of mask) = ways ∙ (sym (lowest_run-span first count some) ∙ ap lowest_run (sym ways)) in
    let long : length (ways_of mask) ≡ count = ap length ways ∙ length-range_with_len first count in
    checked-whole g mask mask (ap (is_out_of_range g) ways ∙ in_range-span g first count some within) run (whole g.sparse refl)
    ∙ ap (λ (b : Bool). cond b (Err TooFew) (Ok mask)) (le-ltb (length (ways_of mask)) g.min (omega (arith, long, enough)))
  where
    whole : (b : Bool) → g.sparse ≡ b → ((g.sparse ≡ false) × (mask_of span ≡ mask_of span)) ⊎ (g.sparse ≡ true)
    whole true is = inr is
    whole false is = inl (is, refl)

-- and spans that lie apart have no way in common
overlaps-spans : (a b : Span) → end a ≤ b.first → overlaps (mask_of a) (mask_of b) ≡ false
overlaps-spans a b apart = overlaps-apart (mask_of a) (mask_of b) (λ way below has.
    elim (cases_lt way (end a)) [
      | inl inside ↦ has_way-zero (mask_of b) way (bit_at_mask_below b.first (b.first + b.count) way (omega (arith, inside, apart)))
      | inr past ↦ absurd (true≢false (sym has ∙ has_way-zero (mask_of a) way (bit_at_mask_above a.first (a.first + a.count) way past)))
    ])

-- ---- the spans of a division

-- they begin where they may
below-spans : (free : List Bool) (least from : ℕ) (groups : List (List ℕ)) (spans : List Span) → IsDivision free least from groups spans → All (λ (span : Span). from ≤ span.first) spans
below-spans free least from [] [] division = λ k d within. absurd (omega (arith, within))
below-spans free least from [] (span ∷ spans) division = absurd division
below-spans free least from (group ∷ groups) [] division = absurd division
below-spans free least from (group ∷ groups) (span ∷ spans) division =
    let rest = below-spans free least (end span) groups spans division.1 in
    let above : from ≤ span.first = division.0.above in
    All-cons (λ (s : Span). from ≤ s.first) span spans above (λ k d within. let later = rest k d within in omega (arith, above, later))

-- and their masks are as they have to be
pub masks-of : (m : Parameters) (free : List Bool) (least from : ℕ) (groups : List (List ℕ)) (spans : List Span) → ((way : ℕ) → get_or free way false ≡ true → way < m.ways) → 0 < least → m.min ≤ least
    → m.ways ≤ 32 → IsDivision free least from groups spans → AreMasksOf m spans
masks-of m free least from [] [] exist some enough few division = record { valid = λ k d within. absurd (omega (arith, within)); apart = λ i j d before within. absurd (omega (arith, within)) }
masks-of m free least from [] (span ∷ spans) exist some enough few division = absurd division
masks-of m free least from (group ∷ groups) [] exist some enough few division = absurd division
masks-of m free least from (group ∷ groups) (span ∷ spans) exist some enough few division =
    let rest = masks-of m free least (end span) groups spans exist some enough few division.1 in
    let counted : least ≤ span.count = division.0.enough in
    let last : span.first + span.count - 1 < m.ways = exist (span.first + span.count - 1) (division.0.free_ways (span.first + span.count - 1) (omega (arith, some, counted)) (omega (arith, some, counted))) in
    let valid = checked-span (geometry_of m) span (omega (arith, some, counted)) (omega (arith, last)) few (omega (arith, enough, counted)) in
    let later = below-spans free least (end span) groups spans division.1 in
    record {
      valid = All-cons (λ (s : Span). checked (geometry_of m) (mask_of s) ≡ Ok (mask_of s)) span spans valid rest.valid;
      apart = AllPairs-cons (λ (a b : Span). overlaps (mask_of a) (mask_of b) ≡ false) span spans (λ k d within. overlaps-spans span (get_or spans k d) (later k d within)) rest.apart;
    }

-- and so are those of a division in any order
pub masks-in-any-order : (m : Parameters) (free : List Bool) (least : ℕ) (groups : List (List ℕ)) (spans : List Span) → ((way : ℕ) → get_or free way false ≡ true → way < m.ways) → 0 < least → m.min ≤ least
    → m.ways ≤ 32 → IsDivisionInAnyOrder free least groups spans → AreMasksOf m spans
masks-in-any-order m free least groups spans exist some enough few division = record {
  valid = λ k d within. valid (get_or spans k d) (division.each k d within);
  apart = λ i j d before within. apart (get_or spans i d) (get_or spans j d) (division.apart i j d before within);
}
  where
    valid : (span : Span) → IsSpan free least 0 span → checked (geometry_of m) (mask_of span) ≡ Ok (mask_of span)
    valid span is =
        let counted : least ≤ span.count = is.enough in
        let last : span.first + span.count - 1 < m.ways = exist (span.first + span.count - 1) (is.free_ways (span.first + span.count - 1) (omega (arith, some, counted)) (omega (arith, some, counted))) in
        checked-span (geometry_of m) span (omega (arith, some, counted)) (omega (arith, last)) few (omega (arith, enough, counted))

    apart : (a b : Span) → AreApart a b → overlaps (mask_of a) (mask_of b) ≡ false
    apart a b (inl before) = overlaps-spans a b before
    apart a b (inr behind) = overlaps-apart (mask_of a) (mask_of b) (λ way below has.
        elim (cases_lt way a.first) [
          | inl under ↦ absurd (true≢false (sym has ∙ has_way-zero (mask_of a) way (bit_at_mask_below a.first (a.first + a.count) way under)))
          | inr past ↦ has_way-zero (mask_of b) way (bit_at_mask_above b.first (b.first + b.count) way (omega (arith, past, behind)))
        ])

-- ---- the ways of a machine

-- a way that is free is the machine's
pub free-exists : (m : Parameters) (region : Option Region) (way : ℕ) → get_or (map (is_free m region) (range_with_len 0 32)) way false ≡ true → way < m.ways
free-exists m region way free = elim (cases_lt way 32) [
  | inl below ↦
      let is : is_free m region way ≡ true = sym (get_or-map-range_with_len (is_free m region) 0 32 way way false below (zero-add way)) ∙ free in
      first (nat_lt way m.ways) (not (has_way m.shareable way) && not (is_locked region way)) (ltb-true way m.ways) is
  | inr past ↦
      let none : get_or (map (is_free m region) (range_with_len 0 32)) way false ≡ false = get_or_past (map (is_free m region) (range_with_len 0 32)) way false past in
      absurd (true≢false (sym free ∙ none))
]
  where
    first : (a b : Bool) → (a ≡ true → way < m.ways) → (a && b) ≡ true → way < m.ways
    first true b then both = then refl
    first false b then both = absurd (true≢false (sym both))
