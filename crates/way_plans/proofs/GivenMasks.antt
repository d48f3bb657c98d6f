-- The masks that a plan gives, by domain and place.
use Rattle.std.proofs.Common.{◌≡◌, ℕ, ◌+◌, ◌-◌, ◌^◌, ◌<◌, ◌≤◌, Bool, true, false, not, ◌&&◌, List, get_or, Option, None, Some, refl, sym, ◌∙◌, arith, true≢false, zero-add, inl, inr}
use Rattle.std.specs.Prelude.{All, nat_lt, slice_index_or}
use Rattle.std.specs.Option.{option_map_or}
use Rattle.std.proofs.lemmas.Bool.{cases_lt}
use Rattle.std.proofs.lemmas.List.{get_or_past}
use Rattle.std.proofs.lemmas.List.FromFn.{get_or-map-range_with_len}
use Rattle.std.proofs.lemmas.Nat.Bits.{bit_at-zero, bit_at_mask_above, bit_at_mask_below}
use Rattle.cbm.proofs.laws.Overlaps.{overlaps-apart}
use Rattle.cbm.proofs.laws.Ways.{has_way-zero}
use Rattle.cbm.specs.Masks.{has_way, overlaps}
use Rattle.machine.specs.declared.parameters.Parameters.{Parameters}
use Rattle.pseudo_lock.specs.declared.region.Region.{Region}
use Rattle.tree_law.specs.Space.{region_mask}
use Rattle.tree_law.specs.State.{State}
use Rattle.way_plans.proofs.PlanMasks.{free-exists}
use Rattle.way_plans.proofs.Powers.{pow-le}
use Rattle.way_plans.specs.AnyOrder.{IsDivisionInAnyOrder}
use Rattle.way_plans.specs.Divisions.{AreFree}
use Rattle.way_plans.specs.Masks.{mask_of}
use Rattle.way_plans.specs.Plans.{free_ways, is_free, is_locked}
use Rattle.way_plans.specs.declared.span.Span.{Span}

-- a span whose ways are free, of which there is one
pub record IsUsable (free : List Bool) (span : Span) : Type 0 where
  pub some : 0 < span.count
  pub free_ways : AreFree free span.first span.count

-- the spans of a division are such
pub All-usable : (free : List Bool) (least : ℕ) (groups : List (List ℕ)) (spans : List Span) → 0 < least → IsDivisionInAnyOrder free least groups spans → All (IsUsable free) spans
All-usable free least groups spans some division = λ k d within. let is = division.each k d within in record { some = omega (arith, some, is.enough); free_ways = is.free_ways }

module _ (m : Parameters) (s : State) (domain : ℕ) (few : m.ways ≤ 32) (span : Span) (usable : IsUsable (free_ways m s domain) span) where
  -- a way of the mask is one of the span, and so it is free
  is_free-way : (way : ℕ) → has_way (mask_of span) way ≡ true → is_free m (slice_index_or s.regions domain None) way ≡ true
  is_free-way way has = elim (cases_lt way span.first) [
    | inl low ↦ absurd (true≢false (sym has ∙ has_way-zero (mask_of span) way (bit_at_mask_below span.first (span.first + span.count) way low)))
    | inr from ↦ elim (cases_lt way (span.first + span.count)) [
      | inl below ↦ free way (usable.free_ways way from below)
      | inr past ↦ absurd (true≢false (sym has ∙ has_way-zero (mask_of span) way (bit_at_mask_above span.first (span.first + span.count) way past)))
    ]
  ]
    where
      free : (way : ℕ) → get_or (free_ways m s domain) way false ≡ true → is_free m (slice_index_or s.regions domain None) way ≡ true
      free way is = elim (cases_lt way 32) [
        | inl lt ↦ sym (get_or-map-range_with_len (is_free m (slice_index_or s.regions domain None)) 0 32 way way false lt (zero-add way)) ∙ is
        | inr past ↦ absurd (true≢false (sym is ∙ get_or_past (free_ways m s domain) way false past))
      ]

  -- the parts of a free way
  free-parts : (a b c : Bool) → (a && (not b && not c)) ≡ true → (b ≡ false) × (c ≡ false)
  free-parts true false false e = (refl, refl)
  free-parts true false true e = absurd (true≢false (sym e))
  free-parts true true c e = absurd (true≢false (sym e))
  free-parts false b c e = absurd (true≢false (sym e))

  -- no other hardware has one of its ways
  pub overlaps-shareable : overlaps (mask_of span) m.shareable ≡ false
  overlaps-shareable = overlaps-apart (mask_of span) m.shareable (λ way below has.
      (free-parts (nat_lt way m.ways) (has_way m.shareable way) (is_locked (slice_index_or s.regions domain None) way) (is_free-way way has)).0)

  -- and no region
  pub overlaps-region : overlaps (mask_of span) (region_mask s.regions domain) ≡ false
  overlaps-region = overlaps-apart (mask_of span) (region_mask s.regions domain) (λ way below has.
      locked (slice_index_or s.regions domain None) way ∙ (free-parts (nat_lt way m.ways) (has_way m.shareable way) (is_locked (slice_index_or s.regions domain None) way) (is_free-way way has)).1)
    where
      locked : (o : Option Region) (way : ℕ) → has_way (option_map_or (λ (r : Region). r.mask) o 0) way ≡ is_locked o way
      locked None way = has_way-zero 0 way (bit_at-zero way)
      locked (Some r) way = refl

  -- the mask has at most 32 bits
  pub mask-small : mask_of span < 2 ^ 32
  mask-small =
      let last : span.first + span.count - 1 < m.ways = free-exists m (slice_index_or s.regions domain None) (span.first + span.count - 1) (usable.free_ways (span.first + span.count - 1) (omega (arith, usable.some)) (omega (arith, usable.some))) in
      let whole = pow-le (span.first + span.count) 32 (omega (arith, last, few)) in
      let some : 1 ≤ 2 ^ span.first = pow-le 0 span.first (omega arith) in
      omega (arith, whole, some)
