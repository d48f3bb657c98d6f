use Rattle.std.proofs.Common.{◌≡◌, ℕ, ◌+◌, ◌*◌, ◌%◌, ◌^◌, ◌<◌, List, Option, length, slice_index, subst, sym, ◌∙◌, ap, arith}
use Rattle.std.proofs.lemmas.List.{get_or_default}
use Rattle.cache_core.specs.declared.cached_line.CachedLine.{CachedLine}
use Rattle.cache_core.specs.Fills.{IsVictim}
use Rattle.cache_core.specs.Flat.{Flat, flat_sets}
use Rattle.cache_core.specs.Places.{resident_in, set_in, stamp_in}
use Rattle.cache_core.proofs.FlatPlaces.{le-places, here_in}
use Rattle.cache_core.proofs.FlatReads.{IsRow, IsRow-flat_sets, IsVictim-chosen}
use Rattle.cache_core.proofs.FlatViews.{lt-sets, length-set_in_flat}
use Rattle.cache_core.proofs.sets.Sets.victim.Goals as goal

pub stamps_of_set-used-requires : goal.stamps_of_set-used-requires
stamps_of_set-used-requires c =
    let i = c.self.inside in
    let f : Flat = record { ways = i.ways; valid = i.valid.items; lines = i.lines; used = i.used.items; rmids = i.rmids.items } in
    let within : c.args.set < length f.valid = lt-sets f c.args.self.now c.args.set c.self.view_is c.requires.set in
    omega (arith, le-places (length f.valid) f.ways c.args.set within, c.self.invariant.used, c.deref.ensures.len)

pub index-requires : goal.index-requires
index-requires c =
    let i = c.self.inside in
    let f : Flat = record { ways = i.ways; valid = i.valid.items; lines = i.lines; used = i.used.items; rmids = i.rmids.items } in
    omega (arith, lt-sets f c.args.self.now c.args.set c.self.view_is c.requires.set)

pub victim-requires-clause-mask : goal.victim-requires-clause-mask
victim-requires-clause-mask c =
    let i = c.self.inside in
    let f : Flat = record { ways = i.ways; valid = i.valid.items; lines = i.lines; used = i.used.items; rmids = i.rmids.items } in
    subst (λ n. 0 < c.args.mask % 2 ^ n) (length-set_in_flat f c.args.self.now c.args.set c.self.view_is c.requires.set ∙ sym c.stamps_of_set-used.ensures.count) c.requires.mask

pub returns : goal.returns
returns c =
    let i = c.self.inside in
    let f : Flat = record { ways = i.ways; valid = i.valid.items; lines = i.lines; used = i.used.items; rmids = i.rmids.items } in
    let set : ℕ = c.args.set in
    let within : set < length f.valid = lt-sets f c.args.self.now set c.self.view_is c.requires.set in
    let value : c.index.result.now ≡ slice_index f.valid set = c.index.ensures ∙ get_or_default f.valid set c.index.result.now 0 within in
    let row : IsRow (set_in (flat_sets f) set) f.ways c.index.result.now (here_in f set) = subst (λ v. IsRow (set_in (flat_sets f) set) f.ways v (here_in f set)) (sym value) (IsRow-flat_sets f set within) in
    let reads : (w : ℕ) → w < f.ways → slice_index c.stamps_of_set-used.result.now w ≡ slice_index f.used (set * f.ways + w) = λ w l. c.stamps_of_set-used.ensures.items w l ∙ ap (λ ps. slice_index ps (set * f.ways + w)) c.deref.ensures.value in
    subst (λ (now : List (List (Option CachedLine))). IsVictim (length (set_in now set)) c.args.mask (resident_in (set_in now set)) (stamp_in (set_in now set)) c.victim.result)
    c.self.view_is
    (IsVictim-chosen (set_in (flat_sets f) set) f.ways c.index.result.now (here_in f set) c.stamps_of_set-used.result.now c.args.mask c.victim.result row c.stamps_of_set-used.ensures.count reads c.victim.ensures)
