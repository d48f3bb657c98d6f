use Rattle.std.proofs.Common.{◌≡◌, ◌<◌, ◌+◌, ◌*◌, List, Option, length, subst, arith, slice_set, option_map}
use Rattle.cache_core.specs.declared.cached_line.CachedLine.{CachedLine}
use Rattle.cache_core.specs.Flat.{Flat, flat_sets}
use Rattle.cache_core.specs.Places.{set_in, place_in}
use Rattle.cache_core.proofs.FlatPlaces.{lt-place}
use Rattle.cache_core.proofs.FlatChanges.{flat_sets-marked}
use Rattle.cache_core.proofs.FlatViews.{lt-sets, lt-ways}
use Rattle.cache_core.proofs.sets.Sets.mark.Goals as goal

pub index_mut-requires : goal.index_mut-requires
index_mut-requires c =
    let i = c.self.inside in
    let f : Flat = record { ways = i.ways; valid = i.valid.items; lines = i.lines; used = i.used.items; rmids = i.rmids.items } in
    let within : c.args.set < length f.valid = lt-sets f c.args.self.now c.args.set c.self.view_is c.requires.set in
    let inside : c.args.way < f.ways = lt-ways f c.args.self.now c.args.set c.args.way c.self.view_is c.requires.set c.requires.way in
    omega (arith, lt-place (length f.valid) f.ways c.args.set c.args.way within inside, c.self.invariant.used)

pub returns : goal.returns
returns c =
    let i = c.self.inside in
    let f : Flat = record { ways = i.ways; valid = i.valid.items; lines = i.lines; used = i.used.items; rmids = i.rmids.items } in
    let within : c.args.set < length f.valid = lt-sets f c.args.self.now c.args.set c.self.view_is c.requires.set in
    let inside : c.args.way < f.ways = lt-ways f c.args.self.now c.args.set c.args.way c.self.view_is c.requires.set c.requires.way in
    let new : Flat = record { ways = i.ways; valid = i.valid.items; lines = i.lines; used = slice_set i.used.items (c.args.set * i.ways + c.args.way) c.args.stamp; rmids = i.rmids.items } in
    subst (λ (now : List (List (Option CachedLine))). flat_sets new ≡ slice_set now c.args.set (slice_set (set_in now c.args.set) c.args.way (option_map (λ (p : CachedLine). record p { used = c.args.stamp }) (place_in (set_in now c.args.set) c.args.way))))
    c.self.view_is
    (flat_sets-marked f c.args.set c.args.way c.args.stamp c.self.invariant.used within inside)
