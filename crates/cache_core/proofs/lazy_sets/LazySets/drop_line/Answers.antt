use Rattle.std.proofs.Common.{◌≡◌, ◌<◌, List, Option, length, subst, sym, ◌∙◌, ap, arith}
use Rattle.std.specs.Prelude.{IfSome}
use Rattle.cache_core.specs.declared.cached_line.CachedLine.{CachedLine}
use Rattle.cache_core.specs.RmidCounts.{IsCounted, Uncounts}
use Rattle.cache_core.specs.Lazy.{LazyValue, lazy_sets}
use Rattle.cache_core.specs.Places.{place_in, set_in}
use Rattle.cache_core.specs.Stands.{Drops}
use Rattle.cache_core.proofs.LazyChanges.{Drops-lazy}
use Rattle.cache_core.proofs.LazyViews.{lt-view, set_in-renewed}
use Rattle.cache_core.proofs.lazy_sets.LazySets.drop_line.Goals as goal

pub renew-requires-clause-set : goal.renew-requires-clause-set
renew-requires-clause-set c = lt-view c.self.inside.emptied c.self.inside.sets c.self.inside.renewed.items c.self.inside.generation c.args.set c.args.self.now c.self.view_is c.requires.set

pub drop_line-requires-clause-set : goal.drop_line-requires-clause-set
drop_line-requires-clause-set c = omega (arith, c.renew.ensures.count, lt-view c.self.inside.emptied c.self.inside.sets c.self.inside.renewed.items c.self.inside.generation c.args.set c.args.self.now c.self.view_is c.requires.set)

pub drop_line-requires-clause-counted : goal.drop_line-requires-clause-counted
drop_line-requires-clause-counted c way =
    let i = c.self.inside in
    let within : c.args.set < length c.renew.new.sets = omega (arith, c.renew.ensures.count, lt-view i.emptied i.sets i.renewed.items i.generation c.args.set c.args.self.now c.self.view_is c.requires.set) in
    let same : lazy_sets i.emptied c.renew.new.sets c.renew.new.renewed.items i.generation ≡ c.args.self.now.places = c.renew.ensures.places ∙ ap (λ (v : LazyValue). v.places) c.self.view_is in
    let row : set_in c.args.self.now.places c.args.set ≡ set_in c.renew.new.sets c.args.set = ap (λ (ps : List (List (Option CachedLine))). set_in ps c.args.set) (sym same) ∙ set_in-renewed i.emptied c.renew.new.sets c.renew.new.renewed.items i.generation c.args.set within c.renew.ensures.set in
    subst (λ (ps : List (Option CachedLine)). IfSome (place_in ps way) (λ p. IsCounted c.args.counts.now p.rmid)) row (c.requires.counted way)

pub returns-clause-dropped : goal.returns-clause-dropped
returns-clause-dropped c =
    let i = c.self.inside in
    let within : c.args.set < length c.renew.new.sets = omega (arith, c.renew.ensures.count, lt-view i.emptied i.sets i.renewed.items i.generation c.args.set c.args.self.now c.self.view_is c.requires.set) in
    let same : lazy_sets i.emptied c.renew.new.sets c.renew.new.renewed.items i.generation ≡ c.args.self.now.places = c.renew.ensures.places ∙ ap (λ (v : LazyValue). v.places) c.self.view_is in
    subst (λ (ps : List (List (Option CachedLine))). Drops ps (lazy_sets i.emptied c.drop_line.new.sets c.renew.new.renewed.items i.generation) c.args.set c.args.line c.drop_line.result) same
    (Drops-lazy i.emptied c.renew.new.sets c.drop_line.new.sets c.renew.new.renewed.items i.generation c.args.set c.args.line c.drop_line.result within c.renew.ensures.set c.drop_line.ensures.dropped)

pub returns-clause-counts : goal.returns-clause-counts
returns-clause-counts c =
    let i = c.self.inside in
    let within : c.args.set < length c.renew.new.sets = omega (arith, c.renew.ensures.count, lt-view i.emptied i.sets i.renewed.items i.generation c.args.set c.args.self.now c.self.view_is c.requires.set) in
    let same : lazy_sets i.emptied c.renew.new.sets c.renew.new.renewed.items i.generation ≡ c.args.self.now.places = c.renew.ensures.places ∙ ap (λ (v : LazyValue). v.places) c.self.view_is in
    let row : set_in c.args.self.now.places c.args.set ≡ set_in c.renew.new.sets c.args.set = ap (λ (ps : List (List (Option CachedLine))). set_in ps c.args.set) (sym same) ∙ set_in-renewed i.emptied c.renew.new.sets c.renew.new.renewed.items i.generation c.args.set within c.renew.ensures.set in
    subst (λ (ps : List (Option CachedLine)). Uncounts c.args.counts.now c.drop_line.new.counts ps c.drop_line.result) (sym row) c.drop_line.ensures.counts
