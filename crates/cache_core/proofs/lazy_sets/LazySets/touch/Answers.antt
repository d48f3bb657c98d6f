use Rattle.std.proofs.Common.{◌≡◌, ◌<◌, ◌%◌, ◌^◌, List, Option, length, slice_set, subst, sym, ◌∙◌, ap, arith}
use Rattle.std.specs.Prelude.{IfSome}
use Rattle.cache_core.specs.declared.cached_line.CachedLine.{CachedLine}
use Rattle.cache_core.specs.RmidCounts.{IsCounted, Recounts}
use Rattle.cache_core.specs.Lazy.{LazyValue, lazy_sets}
use Rattle.cache_core.specs.Places.{place_in, set_in}
use Rattle.cache_core.specs.Stands.{Touches}
use Rattle.cache_core.proofs.LazyChanges.{lazy_sets-touched, set_in-touched}
use Rattle.cache_core.proofs.LazyViews.{lt-view, set_in-renewed}
use Rattle.cache_core.proofs.lazy_sets.LazySets.touch.Goals as goal

pub renew-requires-clause-set : goal.renew-requires-clause-set
renew-requires-clause-set c = lt-view c.self.inside.emptied c.self.inside.sets c.self.inside.renewed.items c.self.inside.generation c.args.set c.args.self.now c.self.view_is c.requires.set

pub touch-requires-clause-set : goal.touch-requires-clause-set
touch-requires-clause-set c = omega (arith, c.renew.ensures.count, lt-view c.self.inside.emptied c.self.inside.sets c.self.inside.renewed.items c.self.inside.generation c.args.set c.args.self.now c.self.view_is c.requires.set)

pub touch-requires-clause-mask : goal.touch-requires-clause-mask
touch-requires-clause-mask c =
    let i = c.self.inside in
    let within : c.args.set < length c.renew.new.sets = omega (arith, c.renew.ensures.count, lt-view i.emptied i.sets i.renewed.items i.generation c.args.set c.args.self.now c.self.view_is c.requires.set) in
    let same : lazy_sets i.emptied c.renew.new.sets c.renew.new.renewed.items i.generation ≡ c.args.self.now.places = c.renew.ensures.places ∙ ap (λ (v : LazyValue). v.places) c.self.view_is in
    let row : set_in c.args.self.now.places c.args.set ≡ set_in c.renew.new.sets c.args.set = ap (λ (ps : List (List (Option CachedLine))). set_in ps c.args.set) (sym same) ∙ set_in-renewed i.emptied c.renew.new.sets c.renew.new.renewed.items i.generation c.args.set within c.renew.ensures.set in
    subst (λ (ps : List (Option CachedLine)). 0 < c.args.mask % 2 ^ length ps) row c.requires.mask

pub touch-requires-clause-counted : goal.touch-requires-clause-counted
touch-requires-clause-counted c way =
    let i = c.self.inside in
    let within : c.args.set < length c.renew.new.sets = omega (arith, c.renew.ensures.count, lt-view i.emptied i.sets i.renewed.items i.generation c.args.set c.args.self.now c.self.view_is c.requires.set) in
    let same : lazy_sets i.emptied c.renew.new.sets c.renew.new.renewed.items i.generation ≡ c.args.self.now.places = c.renew.ensures.places ∙ ap (λ (v : LazyValue). v.places) c.self.view_is in
    let row : set_in c.args.self.now.places c.args.set ≡ set_in c.renew.new.sets c.args.set = ap (λ (ps : List (List (Option CachedLine))). set_in ps c.args.set) (sym same) ∙ set_in-renewed i.emptied c.renew.new.sets c.renew.new.renewed.items i.generation c.args.set within c.renew.ensures.set in
    subst (λ (ps : List (Option CachedLine)). IfSome (place_in ps way) (λ p. IsCounted c.args.counts.now p.rmid)) row (c.requires.counted way)

pub returns-clause-sets : goal.returns-clause-sets
returns-clause-sets c =
    let i = c.self.inside in
    let within : c.args.set < length c.renew.new.sets = omega (arith, c.renew.ensures.count, lt-view i.emptied i.sets i.renewed.items i.generation c.args.set c.args.self.now c.self.view_is c.requires.set) in
    let same : lazy_sets i.emptied c.renew.new.sets c.renew.new.renewed.items i.generation ≡ c.args.self.now.places = c.renew.ensures.places ∙ ap (λ (v : LazyValue). v.places) c.self.view_is in
    lazy_sets-touched i.emptied c.renew.new.sets c.touch.new.sets c.renew.new.renewed.items i.generation c.args.set within c.renew.ensures.set c.touch.ensures.sets
    ∙ ap (λ (ps : List (List (Option CachedLine))). slice_set ps c.args.set (set_in (lazy_sets i.emptied c.touch.new.sets c.renew.new.renewed.items i.generation) c.args.set)) same

pub returns-clause-touched : goal.returns-clause-touched
returns-clause-touched c =
    let i = c.self.inside in
    let within : c.args.set < length c.renew.new.sets = omega (arith, c.renew.ensures.count, lt-view i.emptied i.sets i.renewed.items i.generation c.args.set c.args.self.now c.self.view_is c.requires.set) in
    let same : lazy_sets i.emptied c.renew.new.sets c.renew.new.renewed.items i.generation ≡ c.args.self.now.places = c.renew.ensures.places ∙ ap (λ (v : LazyValue). v.places) c.self.view_is in
    let row : set_in c.args.self.now.places c.args.set ≡ set_in c.renew.new.sets c.args.set = ap (λ (ps : List (List (Option CachedLine))). set_in ps c.args.set) (sym same) ∙ set_in-renewed i.emptied c.renew.new.sets c.renew.new.renewed.items i.generation c.args.set within c.renew.ensures.set in
    let here : set_in (lazy_sets i.emptied c.touch.new.sets c.renew.new.renewed.items i.generation) c.args.set ≡ set_in c.touch.new.sets c.args.set =
    set_in-touched i.emptied c.renew.new.sets c.touch.new.sets c.renew.new.renewed.items i.generation c.args.set within c.renew.ensures.set c.touch.ensures.sets in
    subst (λ (ps : List (Option CachedLine)). Touches ps (set_in (lazy_sets i.emptied c.touch.new.sets c.renew.new.renewed.items i.generation) c.args.set) c.args.mask c.args.place c.touch.result) (sym row)
    (subst (λ (ps : List (Option CachedLine)). Touches (set_in c.renew.new.sets c.args.set) ps c.args.mask c.args.place c.touch.result) (sym here) c.touch.ensures.touched)

pub returns-clause-counts : goal.returns-clause-counts
returns-clause-counts c =
    let i = c.self.inside in
    let within : c.args.set < length c.renew.new.sets = omega (arith, c.renew.ensures.count, lt-view i.emptied i.sets i.renewed.items i.generation c.args.set c.args.self.now c.self.view_is c.requires.set) in
    let same : lazy_sets i.emptied c.renew.new.sets c.renew.new.renewed.items i.generation ≡ c.args.self.now.places = c.renew.ensures.places ∙ ap (λ (v : LazyValue). v.places) c.self.view_is in
    let row : set_in c.args.self.now.places c.args.set ≡ set_in c.renew.new.sets c.args.set = ap (λ (ps : List (List (Option CachedLine))). set_in ps c.args.set) (sym same) ∙ set_in-renewed i.emptied c.renew.new.sets c.renew.new.renewed.items i.generation c.args.set within c.renew.ensures.set in
    subst (λ (ps : List (Option CachedLine)). Recounts c.args.counts.now c.touch.new.counts ps c.args.place c.touch.result) (sym row) c.touch.ensures.counts
