use Rattle.std.proofs.Common.{◌+◌, ◌≤◌, subst}
use Rattle.machine.specs.Maps.{parameters_of}
use Rattle.cache_core.specs.History.{shape_of}
use Rattle.cache_core.specs.Kept.{spread}
use Rattle.cache_core.specs.declared.entry.What.TheVariants.{Raise}
use Rattle.cache_core.specs.Places.{CacheValue}
use Rattle.cache_core.specs.Stands.{Adds}
use Rattle.cache_core.proofs.Commands.{Adds-raise}
use Rattle.cache_core.proofs.KeptPlaces.{kept}
use Rattle.cache_core.proofs.cache.Cache.raise.Goals as goal

pub returns-clause-entry : goal.returns-clause-entry
returns-clause-entry c =
    let inside = c.self.inside in
    let new : CacheValue = kept inside.machine inside.slice (spread (shape_of (parameters_of inside.machine) inside.slice) inside.sets.places) c.args.epoch (inside.clock + 1) in
    let P : CacheValue → Type 0 = λ s. s.floor ≤ c.args.epoch → Adds s new c.args.epoch Raise in
    subst P c.self.view_is (Adds-raise (kept inside.machine inside.slice (spread (shape_of (parameters_of inside.machine) inside.slice) inside.sets.places) inside.floor inside.clock) c.args.epoch) c.requires.epoch
