use Rattle.std.proofs.Common.{◌≡◌, ◌<◌, List, Option, None, length, replicate, slice_set, subst, arith}
use Rattle.cache_core.specs.declared.cached_line.CachedLine.{CachedLine}
use Rattle.cache_core.specs.Flat.{Flat, flat_sets}
use Rattle.cache_core.specs.Places.{set_in}
use Rattle.cache_core.proofs.FlatChanges.{IsFlat-emptied, flat_sets-cleared}
use Rattle.cache_core.proofs.FlatViews.{lt-sets}
use Rattle.cache_core.proofs.sets.Sets.clear.Goals as goal

pub index_mut-requires : goal.index_mut-requires
index_mut-requires c =
    let i = c.self.inside in
    let f : Flat = record { ways = i.ways; valid = i.valid.items; lines = i.lines; used = i.used.items; rmids = i.rmids.items } in
    omega (arith, lt-sets f c.args.self.now c.args.set c.self.view_is c.requires)

pub invariant_of-self : goal.invariant_of-self
invariant_of-self c =
    let i = c.self.inside in
    let f : Flat = record { ways = i.ways; valid = i.valid.items; lines = i.lines; used = i.used.items; rmids = i.rmids.items } in
    IsFlat-emptied f c.args.set 0 c.self.invariant

pub returns : goal.returns
returns c =
    let i = c.self.inside in
    let f : Flat = record { ways = i.ways; valid = i.valid.items; lines = i.lines; used = i.used.items; rmids = i.rmids.items } in
    let within : c.args.set < length f.valid = lt-sets f c.args.self.now c.args.set c.self.view_is c.requires in
    subst (λ (now : List (List (Option CachedLine))). flat_sets (record { ways = f.ways; valid = slice_set f.valid c.args.set 0; lines = f.lines; used = f.used; rmids = f.rmids }) ≡ slice_set now c.args.set (replicate (length (set_in now c.args.set)) None))
    c.self.view_is
    (flat_sets-cleared f c.args.set within)
