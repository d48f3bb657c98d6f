use Rattle.std.proofs.Common.{ap, ◌∙◌, slice_index}
use Rattle.cache_core.specs.declared.emptied.Emptied.TheVariants.{Flushed}
use Rattle.cache_core.proofs.LazyViews.{length-lazy_sets, length-set_in_lazy, place_in-empty}
use Rattle.occupancy.proofs.laws.Zeros.{get_or-zeros}
use Rattle.cache_core.proofs.lazy_sets.LazySets.create.Goals as goal

pub returns-clause-count : goal.returns-clause-count
returns-clause-count c = length-lazy_sets Flushed c.in_ok-sets.sets c.in_ok-renewed.renewed.items 0 ∙ c.in_ok-sets.ensures.count

pub returns-clause-widths : goal.returns-clause-widths
returns-clause-widths c set within = length-set_in_lazy Flushed c.in_ok-sets.sets c.in_ok-renewed.renewed.items 0 set ∙ c.in_ok-sets.ensures.widths set within

pub returns-clause-empty : goal.returns-clause-empty
returns-clause-empty c set way =
    place_in-empty Flushed c.in_ok-sets.sets c.in_ok-renewed.renewed.items 0 set way
    (ap (λ vs. slice_index vs set) (c.in_ok-renewed.ensures.items_if_clones_equal (λ y h. h)) ∙ get_or-zeros _ set)
    c.in_ok-sets.ensures.empty
