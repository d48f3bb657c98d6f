use Rattle.std.proofs.Common.{◌≡◌, ◌∙◌, sym, refl, subst, List}
use Rattle.machine.specs.Maps.{parameters_of}
use Rattle.cache_core.specs.declared.entry.SliceEntry.{SliceEntry}
use Rattle.cache_core.specs.History.{lines_of, shape_of, valid_of}
use Rattle.lists.specs.Sums.{sum_below}
use Rattle.cache_core.specs.Kept.{spread}
use Rattle.cache_core.specs.Places.{CacheValue}
use Rattle.cache_core.specs.Stands.{StandsFor}
use Rattle.cache_core.proofs.KeptPlaces.{kept}
use Rattle.cache_core.proofs.Counts.{sum_below-valid_of, sum_below-lines_of_rmids}
use Rattle.cache_core.proofs.cache.Cache.valid.Goals as goal

pub returns-clause-count : goal.returns-clause-count
returns-clause-count c =
    let inside = c.self.inside in
    let P : CacheValue → Type 0 = λ s. (history : List SliceEntry) → StandsFor s history → c.total.result ≡ valid_of s.shape history in
    let cache : CacheValue = kept inside.machine inside.slice (spread (shape_of (parameters_of inside.machine) inside.slice) inside.sets.places) inside.floor inside.clock in
    subst P c.self.view_is (λ history stands. c.total.ensures ∙ sum_below-valid_of cache inside.sets.places inside.counts inside.shift history refl c.self.invariant.0 stands)

pub returns-clause-sum : goal.returns-clause-sum
returns-clause-sum c =
    let inside = c.self.inside in
    let P : CacheValue → Type 0 = λ s. (history : List SliceEntry) → StandsFor s history → sum_below s.rmids (lines_of s.shape history) ≡ valid_of s.shape history in
    let cache : CacheValue = kept inside.machine inside.slice (spread (shape_of (parameters_of inside.machine) inside.slice) inside.sets.places) inside.floor inside.clock in
    λ history stands. subst P c.self.view_is (λ h stands. sum_below-lines_of_rmids cache h c.self.invariant.0.formed stands) history stands
    ∙ sym (returns-clause-count c history stands)
