use Rattle.std.proofs.Common.{arith, ◌+◌, ◌%◌, ◌<◌, ◌≤◌, ℕ, List, Option, length, subst, sym}
use Rattle.std.specs.Prelude.{IfSome}
use Rattle.machine.specs.Maps.{parameters_of}
use Rattle.cache_core.specs.declared.entry.What.TheVariants.{Drop}
use Rattle.cache_core.specs.declared.cached_line.CachedLine.{CachedLine}
use Rattle.cache_core.specs.RmidCounts.{IsCounted, Uncounts}
use Rattle.cache_core.specs.History.{IsOwn, Shape, shape_of}
use Rattle.cache_core.specs.Kept.{spread}
use Rattle.cache_core.specs.Places.{CacheValue, place_in, set_in}
use Rattle.cache_core.specs.Stands.{Adds, Drops}
use Rattle.cache_core.proofs.Counts.{IsCounted-kept_place}
use Rattle.cache_core.proofs.DroppedLines.{Adds-drop}
use Rattle.cache_core.proofs.Keeping.{lt-kept_set}
use Rattle.cache_core.proofs.KeptDrops.{Drops-spread, IsKept-dropped}
use Rattle.cache_core.proofs.KeptPlaces.{kept}
use Rattle.cache_core.proofs.Spread.{set_in-spread_own}
use Rattle.cache_core.proofs.cache.Cache.drop_line.Goals as goal

pub drop_line-requires-clause-set : goal.drop_line-requires-clause-set
drop_line-requires-clause-set c =
    let i = c.self.inside in
    let shape : Shape = shape_of (parameters_of i.machine) i.slice in
    let own : IsOwn shape (c.args.line % shape.sets) = subst (λ (s : CacheValue). IsOwn s.shape (c.args.line % s.shape.sets)) (sym c.self.view_is) c.requires.own in
    subst (λ k. k < length i.sets.places) (sym c.own_set-set.ensures) (lt-kept_set shape i.machine.rmids i.clock i.sets.places i.counts i.shift (c.args.line % shape.sets) c.self.invariant.0 own i.machine.in_range.some_way)

pub drop_line-requires-clause-counted : goal.drop_line-requires-clause-counted
drop_line-requires-clause-counted c way =
    let i = c.self.inside in
    let shape : Shape = shape_of (parameters_of i.machine) i.slice in
    let own : IsOwn shape (c.args.line % shape.sets) = subst (λ (s : CacheValue). IsOwn s.shape (c.args.line % s.shape.sets)) (sym c.self.view_is) c.requires.own in
    subst (λ k. IfSome (place_in (set_in i.sets.places k) way) (λ p. IsCounted i.counts p.rmid)) (sym c.own_set-set.ensures)
    (subst (λ (ps : List (Option CachedLine)). IfSome (place_in ps way) (λ p. IsCounted i.counts p.rmid)) (set_in-spread_own shape i.sets.places (c.args.line % shape.sets) own)
    (IsCounted-kept_place shape i.machine.rmids i.clock i.sets.places i.counts i.shift (c.args.line % shape.sets) way c.self.invariant.0 own))

pub invariant_of-self : goal.invariant_of-self
invariant_of-self c =
    let i = c.self.inside in
    let shape : Shape = shape_of (parameters_of i.machine) i.slice in
    let s : ℕ = c.args.line % shape.sets in
    let own : IsOwn shape s = subst (λ (v : CacheValue). IsOwn v.shape (c.args.line % v.shape.sets)) (sym c.self.view_is) c.requires.own in (
      IsKept-dropped shape i.machine.rmids i.clock i.sets.places c.drop_line.new.self.places i.counts c.drop_line.new.counts i.shift s c.args.line c.drop_line.result c.self.invariant.0 own i.machine.in_range.some_way
          (subst (λ k. Drops i.sets.places c.drop_line.new.self.places k c.args.line c.drop_line.result) c.own_set-set.ensures c.drop_line.ensures.dropped)
          c.drop_line.ensures.size
          (subst (λ k. Uncounts i.counts c.drop_line.new.counts (set_in i.sets.places k) c.drop_line.result) c.own_set-set.ensures c.drop_line.ensures.counts),
      omega (arith, c.drop_line.ensures.generation, c.self.invariant.1),
    )

pub returns-clause-entry : goal.returns-clause-entry
returns-clause-entry c =
    let i = c.self.inside in
    let shape : Shape = shape_of (parameters_of i.machine) i.slice in
    let s : ℕ = c.args.line % shape.sets in
    let old : CacheValue = kept i.machine i.slice (spread shape i.sets.places) i.floor i.clock in
    let new : CacheValue = kept i.machine i.slice (spread shape c.drop_line.new.self.places) i.floor (i.clock + 1) in
    let own : IsOwn shape s = subst (λ (v : CacheValue). IsOwn v.shape (c.args.line % v.shape.sets)) (sym c.self.view_is) c.requires.own in
    let drops : Drops (spread shape i.sets.places) (spread shape c.drop_line.new.self.places) s c.args.line c.drop_line.result =
    Drops-spread shape i.machine.rmids i.clock i.sets.places c.drop_line.new.self.places i.counts i.shift s c.args.line c.drop_line.result c.self.invariant.0 own i.machine.in_range.some_way
    (subst (λ k. Drops i.sets.places c.drop_line.new.self.places k c.args.line c.drop_line.result) c.own_set-set.ensures c.drop_line.ensures.dropped) in
    let P : CacheValue → Type 0 = λ v. v.floor ≤ c.args.epoch → Adds v new c.args.epoch (Drop c.args.line c.drop_line.result) in
    subst P c.self.view_is (λ late. Adds-drop old (spread shape c.drop_line.new.self.places) c.args.epoch c.args.line c.self.invariant.0.formed own late c.drop_line.result drops) c.requires.epoch
