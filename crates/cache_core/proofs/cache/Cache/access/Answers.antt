use Rattle.std.proofs.Common.{◌≡◌, ◌+◌, ◌/◌, ◌%◌, ◌^◌, ◌<◌, ℕ, List, Option, length, slice_set, subst, sym, ap, arith, refl}
use Rattle.std.specs.Prelude.{IfSome}
use Rattle.machine.specs.Maps.{parameters_of}
use Rattle.cache_core.specs.declared.cached_line.CachedLine.{CachedLine}
use Rattle.cache_core.specs.RmidCounts.{IsCounted, Recounts}
use Rattle.cache_core.specs.History.{IsOwn, Shape, shape_of}
use Rattle.cache_core.specs.Kept.{spread}
use Rattle.cache_core.specs.Places.{place_in, set_in, CacheValue}
use Rattle.cache_core.specs.Stands.{Accesses, Touches}
use Rattle.cache_core.proofs.Accesses.{Accesses-touches, touching}
use Rattle.cache_core.proofs.Counts.{IsCounted-kept_place, sum_below-counts_lt}
use Rattle.cache_core.proofs.Keeping.{IsKept-touched, length-kept_set, lt-kept_set, spread-touched}
use Rattle.cache_core.proofs.KeptPlaces.{kept}
use Rattle.cache_core.proofs.Spread.{set_in-spread_own}
use Rattle.cache_core.proofs.cache.Cache.access.Goals as goal

pub touch-requires-clause-set : goal.touch-requires-clause-set
touch-requires-clause-set c =
    let i = c.self.inside in
    let shape : Shape = shape_of (parameters_of i.machine) i.slice in
    let own : IsOwn shape (c.args.line % shape.sets) = subst (λ (s : CacheValue). IsOwn s.shape (c.args.line % s.shape.sets)) (sym c.self.view_is) c.requires.own in
    subst (λ k. k < length i.sets.places) (sym c.own_set-set.ensures) (lt-kept_set shape i.machine.rmids i.clock i.sets.places i.counts i.shift (c.args.line % shape.sets) c.self.invariant.0 own i.machine.in_range.some_way)

pub touch-requires-clause-mask : goal.touch-requires-clause-mask
touch-requires-clause-mask c =
    let i = c.self.inside in
    let shape : Shape = shape_of (parameters_of i.machine) i.slice in
    let own : IsOwn shape (c.args.line % shape.sets) = subst (λ (s : CacheValue). IsOwn s.shape (c.args.line % s.shape.sets)) (sym c.self.view_is) c.requires.own in
    let mask : 0 < c.args.tag.now.mask % 2 ^ shape.ways = subst (λ (s : CacheValue). 0 < c.args.tag.now.mask % 2 ^ s.shape.ways) (sym c.self.view_is) c.requires.mask in
    subst (λ k. 0 < c.args.tag.now.mask % 2 ^ length (set_in i.sets.places k)) (sym c.own_set-set.ensures)
    (subst (λ n. 0 < c.args.tag.now.mask % 2 ^ n) (sym (length-kept_set shape i.machine.rmids i.clock i.sets.places i.counts i.shift (c.args.line % shape.sets) c.self.invariant.0 own)) mask)

pub touch-requires-clause-room : goal.touch-requires-clause-room
touch-requires-clause-room c =
    let i = c.self.inside in
    sum_below-counts_lt (shape_of (parameters_of i.machine) i.slice) i.machine.rmids i.clock i.sets.places i.counts i.shift c.self.invariant.0 i.machine.in_range.set_limit i.machine.in_range.way_limit

pub touch-requires-clause-counted : goal.touch-requires-clause-counted
touch-requires-clause-counted c way =
    let i = c.self.inside in
    let shape : Shape = shape_of (parameters_of i.machine) i.slice in
    let own : IsOwn shape (c.args.line % shape.sets) = subst (λ (s : CacheValue). IsOwn s.shape (c.args.line % s.shape.sets)) (sym c.self.view_is) c.requires.own in
    subst (λ k. IfSome (place_in (set_in i.sets.places k) way) (λ p. IsCounted i.counts p.rmid)) (sym c.own_set-set.ensures)
    (subst (λ (ps : List (Option CachedLine)). IfSome (place_in ps way) (λ p. IsCounted i.counts p.rmid)) (set_in-spread_own shape i.sets.places (c.args.line % shape.sets) own)
    (IsCounted-kept_place shape i.machine.rmids i.clock i.sets.places i.counts i.shift (c.args.line % shape.sets) way c.self.invariant.0 own))

pub returns-clause-entry : goal.returns-clause-entry
returns-clause-entry c =
    let i = c.self.inside in
    let shape : Shape = shape_of (parameters_of i.machine) i.slice in
    let s : ℕ = c.args.line % shape.sets in
    let places : List (List (Option CachedLine)) = spread shape i.sets.places in
    let changed : List (Option CachedLine) = set_in c.touch.new.self.places (s / shape.slices) in
    let old : CacheValue = kept i.machine i.slice places i.floor i.clock in
    let new : CacheValue = kept i.machine i.slice (spread shape c.touch.new.self.places) i.floor (i.clock + 1) in
    let own : IsOwn shape s = subst (λ (v : CacheValue). IsOwn v.shape (c.args.line % v.shape.sets)) (sym c.self.view_is) c.requires.own in
    let set : c.touch.new.self.places ≡ slice_set i.sets.places (s / shape.slices) changed = subst (λ k. c.touch.new.self.places ≡ slice_set i.sets.places k (set_in c.touch.new.self.places k)) c.own_set-set.ensures c.touch.ensures.sets in
    let all : spread shape c.touch.new.self.places ≡ slice_set places s changed = spread-touched shape i.machine.rmids i.clock i.sets.places c.touch.new.self.places i.counts i.shift s c.self.invariant.0 own i.machine.in_range.some_way set in
    let there : Touches (set_in i.sets.places (s / shape.slices)) changed c.args.tag.now.mask (touching c.args.tag.now c.args.line i.clock) c.touch.result =
    subst (λ k. Touches (set_in i.sets.places k) (set_in c.touch.new.self.places k) c.args.tag.now.mask (touching c.args.tag.now c.args.line i.clock) c.touch.result) c.own_set-set.ensures c.touch.ensures.touched in
    let touched : Touches (set_in places s) changed c.args.tag.now.mask (touching c.args.tag.now c.args.line i.clock) c.touch.result =
    subst (λ ps. Touches ps changed c.args.tag.now.mask (touching c.args.tag.now c.args.line i.clock) c.touch.result) (sym (set_in-spread_own shape i.sets.places s own)) there in
    let P : CacheValue → Type 0 = λ v. Accesses v new c.args.tag.now c.args.line c.touch.result in
    let Q : List (List (Option CachedLine)) → Type 0 = λ ps. Accesses old (kept i.machine i.slice ps i.floor (i.clock + 1)) c.args.tag.now c.args.line c.touch.result in
    subst P c.self.view_is (subst Q (sym all) (Accesses-touches old c.args.tag.now c.args.line changed c.touch.result c.self.invariant.0.formed own c.if-tag-self.false touched))

pub invariant_of-self : goal.invariant_of-self
invariant_of-self c =
    let i = c.self.inside in
    let shape : Shape = shape_of (parameters_of i.machine) i.slice in
    let s : ℕ = c.args.line % shape.sets in
    let own : IsOwn shape s = subst (λ (v : CacheValue). IsOwn v.shape (c.args.line % v.shape.sets)) (sym c.self.view_is) c.requires.own in
    let named : c.args.tag.now.rmid < i.machine.rmids = omega (arith, c.requires.rmid, ap (λ (v : CacheValue). v.rmids) c.self.view_is) in
    let place : CachedLine = touching c.args.tag.now c.args.line i.clock in (
      IsKept-touched shape i.machine.rmids i.clock i.sets.places c.touch.new.self.places i.counts c.touch.new.counts i.shift s c.args.tag.now.mask place c.touch.result c.self.invariant.0 own i.machine.in_range.some_way refl named
          (subst (λ k. c.touch.new.self.places ≡ slice_set i.sets.places k (set_in c.touch.new.self.places k)) c.own_set-set.ensures c.touch.ensures.sets)
          (subst (λ k. Touches (set_in i.sets.places k) (set_in c.touch.new.self.places k) c.args.tag.now.mask place c.touch.result) c.own_set-set.ensures c.touch.ensures.touched)
          c.touch.ensures.size
          (subst (λ k. Recounts i.counts c.touch.new.counts (set_in i.sets.places k) place c.touch.result) c.own_set-set.ensures c.touch.ensures.counts),
      omega (arith, c.touch.ensures.generation, c.self.invariant.1),
    )
