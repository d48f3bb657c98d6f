use Rattle.std.proofs.Common.{◌≡◌, ◌<◌, ◌∙◌, subst, refl, List, arith, ap}
use Rattle.machine.specs.Maps.{parameters_of}
use Rattle.cache_core.specs.declared.entry.SliceEntry.{SliceEntry}
use Rattle.cache_core.specs.History.{lines_of, shape_of}
use Rattle.cache_core.specs.Kept.{spread}
use Rattle.cache_core.specs.Places.{CacheValue}
use Rattle.cache_core.specs.Stands.{StandsFor}
use Rattle.cache_core.proofs.KeptPlaces.{kept}
use Rattle.cache_core.proofs.Counts.{slice_index-lines_of}
use Rattle.cache_core.proofs.Commands.{Adds-look}
use Rattle.cache_core.proofs.cache.Cache.look.Goals as goal

pub returns-clause-count : goal.returns-clause-count
returns-clause-count c =
    let inside = c.self.inside in
    let P : CacheValue → Type 0 = λ s. (history : List SliceEntry) → StandsFor s history → c.of.result ≡ lines_of s.shape history c.args.rmid in
    let cache : CacheValue = kept inside.machine inside.slice (spread (shape_of (parameters_of inside.machine) inside.slice) inside.sets.places) inside.floor inside.clock in
    let known : c.args.rmid < inside.machine.rmids = omega (arith, c.requires, ap (λ (s : CacheValue). s.rmids) c.self.view_is) in
    subst P c.self.view_is (λ history stands. c.of.ensures ∙ slice_index-lines_of cache inside.sets.places inside.counts inside.shift c.args.rmid history refl c.self.invariant.0 known stands)

pub returns-clause-entry : goal.returns-clause-entry
returns-clause-entry c = λ epoch. Adds-look c.args.self.now epoch c.args.rmid c.of.result (returns-clause-count c)
