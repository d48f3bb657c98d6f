use Rattle.std.proofs.Common.{◌≡◌, ◌++◌, length, take, drop, sym, ◌∙◌, subst}
use Rattle.std.specs.List.{All}
use Rattle.std.proofs.lemmas.List.{take_at}
use Rattle.cache_core.specs.History.{shape_of}
use Rattle.machine.specs.Maps.{parameters_of}
use Rattle.pair_play.proofs.level.Level.flush.Goals as goal
use Rattle.pair_play.specs.Histories.{HasShape}

pub invariant_of-self : goal.invariant_of-self
invariant_of-self c =
    let shape = shape_of (parameters_of c.self.inside.machine) 0 in
    let caches = c.self.inside.caches in
    let new = c.flush_each.new.caches in
    let kept : All (HasShape shape) new = c.flush_each.ensures.shapes shape (subst (All (HasShape shape)) (sym c.deref_mut.ensures.value) c.self.invariant.1) in
    let count : caches.len ≡ length new = sym (c.flush_each.auto.caches ∙ c.deref_mut.ensures.len) in
    let all : take caches.len (new ++ drop (length new) caches.items) ≡ new = take_at new (drop (length new) caches.items) caches.len (sym count) in
    (c.self.invariant.0, subst (All (HasShape shape)) (sym all) kept)
