use Rattle.std.proofs.Common.{◌≡◌, ◌+◌, ◌-◌, ◌/◌, ◌^◌, ◌<◌, ℕ, ◌∙◌, ap, sym, refl, arith, length}
use lib.Count.{count_trailing_zeros}
use Rattle.std.proofs.lemmas.Nat.{trailing_le}
use Rattle.machine.specs.Maps.{parameters_of}
use Rattle.cache_core.specs.History.{Shape, shape_of}
use Rattle.cache_core.specs.Kept.{spread}
use Rattle.cache_core.proofs.Commands.{StandsFor-empty}
use Rattle.cache_core.proofs.KeptDrops.{IsKept-empty, length-set_in_spread}
use Rattle.cache_core.proofs.KeptPlaces.{kept}
use Rattle.cache_core.proofs.Powers.{pow-trailing_zeros}
use Rattle.cache_core.proofs.Spread.{div-lt_sets, place_in-spread_empty}
use Rattle.cache_core.proofs.cache.Cache.create.Goals as goal

pub invariant_of-result : goal.invariant_of-result
invariant_of-result c =
    let m = c.args.m.now in
    let shape : Shape = shape_of (parameters_of m) c.args.slice in
    let shift : ℕ = count_trailing_zeros 8 m.slices in
    let power : m.slices ≡ 2 ^ shift = pow-trailing_zeros m.slices m.in_range.slice_power m.in_range.slice_limit in
    let narrow : shift < 32 = omega (arith, trailing_le 8 m.slices) in
    let count : length c.in_ok-sets.sets.places ≡ (m.sets - 1) / m.slices + 1 = c.in_ok-sets.ensures.count ∙ (c.own_sets.ensures ∙ ap (λ k. (m.sets - 1) / k + 1) (sym power)) in (
      IsKept-empty shape m.rmids 0 c.in_ok-sets.sets.places c.in_ok-counts.counts shift narrow c.requires.slice power c.in_ok-counts.ensures.size c.in_ok-counts.ensures.none
          (length-set_in_spread shape c.in_ok-sets.sets.places (λ set l. c.in_ok-sets.ensures.widths (set / m.slices) (omega (arith, div-lt_sets set m.sets m.slices l m.in_range.some_slice, count, c.in_ok-sets.ensures.count))))
          c.in_ok-sets.ensures.empty,
      omega (arith, c.in_ok-sets.ensures.generation),
    )

pub returns-clause-empty : goal.returns-clause-empty
returns-clause-empty c =
    let shape : Shape = shape_of (parameters_of c.args.m.now) c.args.slice in
    StandsFor-empty (kept c.args.m.now c.args.slice (spread shape c.in_ok-sets.sets.places) 0 0) (place_in-spread_empty shape c.in_ok-sets.sets.places c.in_ok-sets.ensures.empty) refl refl
