use Rattle.std.proofs.Common.{◌≡◌, ℕ, ◌+◌, ◌*◌, ◌/◌, ◌<◌, ◌≤◌, ◌==◌, cond, List, Option, length, sym, ◌∙◌, ap, subst, arith}
use Rattle.std.specs.Prelude.{slice_index}
use Rattle.lists.proofs.Sums.{sum_below-zero}
use Rattle.machine.specs.Maps.{parameters_of}
use Rattle.machine.proofs.laws.WholeSets.{mod-sets_slices}
use Rattle.cache_core.specs.declared.entry.What.TheVariants.{Lock}
use Rattle.cache_core.specs.declared.cached_line.CachedLine.{CachedLine}
use Rattle.cache_core.specs.History.{IsOwn, Shape, shape_of, ways_below}
use Rattle.cache_core.specs.Kept.{spread}
use Rattle.cache_core.specs.Loads.{AreLoaded, loaded_place}
use Rattle.cache_core.specs.Places.{CacheValue, place_in, set_in}
use Rattle.cache_core.specs.Stands.{Adds}
use Rattle.cache_core.proofs.Commands.{Adds-lock}
use Rattle.cache_core.proofs.KeptPlaces.{kept}
use Rattle.cache_core.proofs.LoadedSlices.{AreLoaded-numbered, IsKept-loaded}
use Rattle.cache_core.proofs.Spread.{set_in-spread_own}
use Rattle.cache_core.proofs.cache.Cache.lock.Goals as goal

pub add_lines-requires-clause-room : goal.add_lines-requires-clause-room
add_lines-requires-clause-room c = omega (arith, c.region_lines.type_inv, sum_below-zero (length c.clear.new.self) (slice_index c.clear.new.self) (λ r l. c.clear.ensures.none r))

pub returns-clause-entry : goal.returns-clause-entry
returns-clause-entry c =
    let i = c.self.inside in
    let shape : Shape = shape_of (parameters_of i.machine) i.slice in
    let now : List (List (Option CachedLine)) = spread shape c.lock.new.self.places in
    let old : CacheValue = kept i.machine i.slice (spread shape i.sets.places) i.floor i.clock in
    let new : CacheValue = kept i.machine i.slice now c.args.epoch (i.clock + 1) in
    let load : AreLoaded shape c.args.mask c.args.first_line i.clock c.lock.new.self.places =
    AreLoaded-numbered shape i.machine.rmids i.clock i.sets.places c.lock.new.self.places i.counts i.shift c.args.mask c.args.first_line (c.args.first_line + c.from.result) i.clock c.self.invariant.0 (ap (λ n. c.args.first_line + n) c.from.ensures) c.lock.ensures.loaded in
    let holds : (s w : ℕ) → IsOwn shape s → w < shape.ways → place_in (set_in now s) w ≡ loaded_place shape c.args.mask c.args.first_line i.clock s w =
    λ s w own inside. ap (λ ps. place_in ps w) (set_in-spread_own shape c.lock.new.self.places s own) ∙ load s w own inside in
    let P : CacheValue → Type 0 = λ v. v.floor ≤ c.args.epoch → Adds v new c.args.epoch (Lock c.args.mask c.args.first_line) in
    subst P c.self.view_is (λ late. Adds-lock old now c.args.epoch c.args.mask c.args.first_line late holds) c.requires.epoch

pub invariant_of-self : goal.invariant_of-self
invariant_of-self c =
    let i = c.self.inside in
    let shape : Shape = shape_of (parameters_of i.machine) i.slice in
    let load : AreLoaded shape c.args.mask c.args.first_line i.clock c.lock.new.self.places =
    AreLoaded-numbered shape i.machine.rmids i.clock i.sets.places c.lock.new.self.places i.counts i.shift c.args.mask c.args.first_line (c.args.first_line + c.from.result) i.clock c.self.invariant.0 (ap (λ n. c.args.first_line + n) c.from.ensures) c.lock.ensures.loaded in
    let lines : c.region_lines.result ≡ shape.sets / shape.slices * ways_below c.args.mask shape.ways = c.region_lines.ensures ∙ ap (λ n. shape.sets / n * ways_below c.args.mask shape.ways) (sym c.self.invariant.0.power) in
    let counted : (r : ℕ) → slice_index c.add_lines.new.self r ≡ cond (0 == r) (shape.sets / shape.slices * ways_below c.args.mask shape.ways) 0 = λ r.
    omega (arith, c.add_lines.ensures.more r, c.clear.ensures.none r, ap (λ n. cond (0 == r) n 0) lines) in (
      IsKept-loaded shape i.machine.rmids i.clock i.sets.places c.lock.new.self.places i.counts c.add_lines.new.self i.shift c.args.mask c.args.first_line c.self.invariant.0 i.machine.in_range.some_rmid (mod-sets_slices (parameters_of i.machine) i.machine.in_range)
          c.lock.ensures.widths
          load
          (c.add_lines.ensures.size ∙ c.clear.ensures.size)
          counted,
      omega (arith, c.lock.ensures.generation, c.self.invariant.1),
    )
