use Rattle.std.proofs.Common.{arith, ◌+◌, ◌≤◌, subst, List, Option}
use Rattle.machine.specs.Maps.{parameters_of}
use Rattle.cache_core.specs.declared.entry.What.TheVariants.{Flush}
use Rattle.cache_core.specs.declared.cached_line.CachedLine.{CachedLine}
use Rattle.cache_core.specs.History.{Shape, shape_of}
use Rattle.cache_core.specs.Kept.{spread}
use Rattle.cache_core.specs.Places.{CacheValue}
use Rattle.cache_core.specs.Stands.{Adds}
use Rattle.cache_core.proofs.Commands.{Adds-flush}
use Rattle.cache_core.proofs.KeptDrops.{IsKept-emptied}
use Rattle.cache_core.proofs.KeptPlaces.{kept}
use Rattle.cache_core.proofs.Spread.{place_in-spread_empty}
use Rattle.cache_core.proofs.cache.Cache.flush.Goals as goal

pub returns-clause-entry : goal.returns-clause-entry
returns-clause-entry c =
    let inside = c.self.inside in
    let shape : Shape = shape_of (parameters_of inside.machine) inside.slice in
    let now : List (List (Option CachedLine)) = spread shape c.flush.new.self.places in
    let old : CacheValue = kept inside.machine inside.slice (spread shape inside.sets.places) inside.floor inside.clock in
    let new : CacheValue = kept inside.machine inside.slice now c.args.epoch (inside.clock + 1) in
    let P : CacheValue → Type 0 = λ s. s.floor ≤ c.args.epoch → Adds s new c.args.epoch Flush in
    subst P c.self.view_is (λ late. Adds-flush old now c.args.epoch late (place_in-spread_empty shape c.flush.new.self.places c.flush.ensures.empty)) c.requires.epoch

pub invariant_of-self : goal.invariant_of-self
invariant_of-self c =
    let inside = c.self.inside in
    let shape : Shape = shape_of (parameters_of inside.machine) inside.slice in (
      IsKept-emptied shape inside.machine.rmids inside.clock inside.sets.places c.flush.new.self.places inside.counts c.clear.new.self inside.shift c.self.invariant.0 c.flush.ensures.widths c.flush.ensures.empty c.clear.ensures.size c.clear.ensures.none,
      omega (arith, c.flush.ensures.generation, c.self.invariant.1),
    )
