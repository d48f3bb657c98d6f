use Rattle.std.proofs.Common.{◌≡◌, ◌+◌, length, sym, ◌∙◌, ap, arith}
use Rattle.cache_core.specs.declared.emptied.Emptied.TheVariants.{Locked}
use Rattle.cache_core.specs.Lazy.{LazyValue}
use Rattle.cache_core.specs.Places.{set_in}
use Rattle.cache_core.proofs.LazyViews.{length-set_in_lazy, place_in-behind}
use Rattle.cache_core.proofs.lazy_sets.LazySets.lock.Goals as goal

pub returns-clause-widths : goal.returns-clause-widths
returns-clause-widths c set =
    let i = c.self.inside in
    length-set_in_lazy (Locked c.args.region) i.sets i.renewed.items (i.generation + 1) set
    ∙ (sym (length-set_in_lazy i.emptied i.sets i.renewed.items i.generation set) ∙ ap (λ (v : LazyValue). length (set_in v.places set)) c.self.view_is)

pub returns-clause-loaded : goal.returns-clause-loaded
returns-clause-loaded c set way within =
    let i = c.self.inside in
    let width : length (set_in c.args.self.now.places set) ≡ length (set_in i.sets set) = ap (λ (v : LazyValue). length (set_in v.places set)) (sym c.self.view_is) ∙ length-set_in_lazy i.emptied i.sets i.renewed.items i.generation set in
    place_in-behind (Locked c.args.region) i.sets i.renewed.items (i.generation + 1) set way (omega (arith, c.self.invariant.past set)) (omega (arith, within, width))
