use Rattle.std.proofs.Common.{◌+◌, length, sym, ◌∙◌, ap, arith}
use Rattle.cache_core.specs.declared.emptied.Emptied.TheVariants.{Flushed}
use Rattle.cache_core.specs.Lazy.{LazyValue}
use Rattle.cache_core.specs.Places.{set_in}
use Rattle.cache_core.proofs.LazyViews.{length-set_in_lazy, place_in-flushed}
use Rattle.cache_core.proofs.lazy_sets.LazySets.flush.Goals as goal

pub returns-clause-widths : goal.returns-clause-widths
returns-clause-widths c set =
    let i = c.self.inside in
    length-set_in_lazy Flushed i.sets i.renewed.items (i.generation + 1) set
    ∙ (sym (length-set_in_lazy i.emptied i.sets i.renewed.items i.generation set) ∙ ap (λ (v : LazyValue). length (set_in v.places set)) c.self.view_is)

pub returns-clause-empty : goal.returns-clause-empty
returns-clause-empty c set way =
    let i = c.self.inside in
    place_in-flushed i.sets i.renewed.items (i.generation + 1) set way (omega (arith, c.self.invariant.past set))
