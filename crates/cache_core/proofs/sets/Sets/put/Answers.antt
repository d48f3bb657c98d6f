use Rattle.std.proofs.Common.{◌≡◌, ◌≢◌, ℕ, ◌<◌, ◌+◌, ◌*◌, List, Option, Some, length, subst, sym, ◌∙◌, ap, arith, slice_set, slice_index, option_map}
use Rattle.std.proofs.lemmas.List.{get_or_default}
use Rattle.cbm.specs.Masks.{has_way}
use Rattle.cache_core.specs.declared.cached_line.CachedLine.{CachedLine}
use Rattle.cache_core.specs.Flat.{Flat, IsFlat, flat_sets}
use Rattle.cache_core.specs.Places.{set_in, place_in}
use Rattle.cache_core.proofs.FlatPlaces.{lt-place}
use Rattle.cache_core.proofs.FlatChanges.{IsFlat-put, flat_sets-put, put_in}
use Rattle.cache_core.proofs.FlatReads.{option_map-rmid}
use Rattle.cache_core.proofs.FlatViews.{lt-sets, lt-ways}
use Rattle.cache_core.proofs.sets.Sets.put.Goals as goal

pub index-valid-requires : goal.index-valid-requires
index-valid-requires c =
    let i = c.self.inside in
    let f : Flat = record { ways = i.ways; valid = i.valid.items; lines = i.lines; used = i.used.items; rmids = i.rmids.items } in
    omega (arith, lt-sets f c.args.self.now c.args.set c.self.view_is c.requires.set)

pub index-requires : goal.index-requires
index-requires c =
    let i = c.self.inside in
    let f : Flat = record { ways = i.ways; valid = i.valid.items; lines = i.lines; used = i.used.items; rmids = i.rmids.items } in
    let within : c.args.set < length f.valid = lt-sets f c.args.self.now c.args.set c.self.view_is c.requires.set in
    let inside : c.args.way < f.ways = lt-ways f c.args.self.now c.args.set c.args.way c.self.view_is c.requires.set c.requires.way in
    omega (arith, lt-place (length f.valid) f.ways c.args.set c.args.way within inside, c.self.invariant.rmids)

pub rmid_at-left-requires : goal.rmid_at-left-requires
rmid_at-left-requires c =
    let i = c.self.inside in
    let f : Flat = record { ways = i.ways; valid = i.valid.items; lines = i.lines; used = i.used.items; rmids = i.rmids.items } in
    omega (arith, lt-ways f c.args.self.now c.args.set c.args.way c.self.view_is c.requires.set c.requires.way, c.self.invariant.limit)

pub with_way-requires : goal.with_way-requires
with_way-requires c =
    let i = c.self.inside in
    let f : Flat = record { ways = i.ways; valid = i.valid.items; lines = i.lines; used = i.used.items; rmids = i.rmids.items } in
    omega (arith, lt-ways f c.args.self.now c.args.set c.args.way c.self.view_is c.requires.set c.requires.way, c.self.invariant.limit)

pub index_mut-requires : goal.index_mut-requires
index_mut-requires c =
    let i = c.self.inside in
    let f : Flat = record { ways = i.ways; valid = i.valid.items; lines = i.lines; used = i.used.items; rmids = i.rmids.items } in
    omega (arith, lt-sets f c.args.self.now c.args.set c.self.view_is c.requires.set)

pub put-requires : goal.put-requires
put-requires c =
    let i = c.self.inside in
    let f : Flat = record { ways = i.ways; valid = i.valid.items; lines = i.lines; used = i.used.items; rmids = i.rmids.items } in
    let within : c.args.set < length f.valid = lt-sets f c.args.self.now c.args.set c.self.view_is c.requires.set in
    let inside : c.args.way < f.ways = lt-ways f c.args.self.now c.args.set c.args.way c.self.view_is c.requires.set c.requires.way in
    omega (arith, lt-place (length f.valid) f.ways c.args.set c.args.way within inside, c.self.invariant.lines)

pub index_mut-requires-2 : goal.index_mut-requires-2
index_mut-requires-2 c =
    let i = c.self.inside in
    let f : Flat = record { ways = i.ways; valid = i.valid.items; lines = i.lines; used = i.used.items; rmids = i.rmids.items } in
    let within : c.args.set < length f.valid = lt-sets f c.args.self.now c.args.set c.self.view_is c.requires.set in
    let inside : c.args.way < f.ways = lt-ways f c.args.self.now c.args.set c.args.way c.self.view_is c.requires.set c.requires.way in
    omega (arith, lt-place (length f.valid) f.ways c.args.set c.args.way within inside, c.self.invariant.used)

pub index_mut-requires-3 : goal.index_mut-requires-3
index_mut-requires-3 c =
    let i = c.self.inside in
    let f : Flat = record { ways = i.ways; valid = i.valid.items; lines = i.lines; used = i.used.items; rmids = i.rmids.items } in
    let within : c.args.set < length f.valid = lt-sets f c.args.self.now c.args.set c.self.view_is c.requires.set in
    let inside : c.args.way < f.ways = lt-ways f c.args.self.now c.args.set c.args.way c.self.view_is c.requires.set c.requires.way in
    omega (arith, lt-place (length f.valid) f.ways c.args.set c.args.way within inside, c.self.invariant.rmids)

pub invariant_of-self : goal.invariant_of-self
invariant_of-self c =
    let i = c.self.inside in
    let f : Flat = record { ways = i.ways; valid = i.valid.items; lines = i.lines; used = i.used.items; rmids = i.rmids.items } in
    subst (λ (ls : List ℕ). IsFlat (record (put_in f c.args.set c.args.way c.args.place c.with_way.result) { lines = ls })) (sym c.put.ensures) (IsFlat-put f c.args.set c.args.way c.with_way.result c.args.place c.self.invariant)

pub returns-clause-left : goal.returns-clause-left
returns-clause-left c =
    let i = c.self.inside in
    let f : Flat = record { ways = i.ways; valid = i.valid.items; lines = i.lines; used = i.used.items; rmids = i.rmids.items } in
    let within : c.args.set < length f.valid = lt-sets f c.args.self.now c.args.set c.self.view_is c.requires.set in
    let inside : c.args.way < f.ways = lt-ways f c.args.self.now c.args.set c.args.way c.self.view_is c.requires.set c.requires.way in
    let value : c.index-valid.result.now ≡ slice_index f.valid c.args.set = c.index-valid.ensures ∙ get_or_default f.valid c.args.set c.index-valid.result.now 0 within in
    let place : c.args.set * f.ways + c.args.way < length f.rmids = omega (arith, lt-place (length f.valid) f.ways c.args.set c.args.way within inside, c.self.invariant.rmids) in
    let rmid : c.index.result.now ≡ slice_index f.rmids (c.args.set * f.ways + c.args.way) = c.index.ensures ∙ get_or_default f.rmids (c.args.set * f.ways + c.args.way) c.index.result.now 0 place in
    c.rmid_at-left.ensures
    ∙ (option_map-rmid f c.args.set c.args.way c.index-valid.result.now c.index.result.now within inside value rmid
    ∙ ap (λ (now : List (List (Option CachedLine))). option_map (λ (p : CachedLine). p.rmid) (place_in (set_in now c.args.set) c.args.way)) c.self.view_is)

pub returns-clause-put : goal.returns-clause-put
returns-clause-put c =
    let i = c.self.inside in
    let f : Flat = record { ways = i.ways; valid = i.valid.items; lines = i.lines; used = i.used.items; rmids = i.rmids.items } in
    let within : c.args.set < length f.valid = lt-sets f c.args.self.now c.args.set c.self.view_is c.requires.set in
    let inside : c.args.way < f.ways = lt-ways f c.args.self.now c.args.set c.args.way c.self.view_is c.requires.set c.requires.way in
    let value : c.index-valid.result.now ≡ slice_index f.valid c.args.set = c.index-valid.ensures ∙ get_or_default f.valid c.args.set c.index-valid.result.now 0 within in
    let others : (w : ℕ) → w ≢ c.args.way → has_way c.with_way.result w ≡ has_way (slice_index f.valid c.args.set) w = λ w apart. c.with_way.ensures.others w apart ∙ ap (λ n. has_way n w) value in
    subst (λ (ls : List ℕ). flat_sets (record (put_in f c.args.set c.args.way c.args.place c.with_way.result) { lines = ls }) ≡ slice_set c.args.self.now c.args.set (slice_set (set_in c.args.self.now c.args.set) c.args.way (Some c.args.place))) (sym c.put.ensures)
    (subst (λ (now : List (List (Option CachedLine))). flat_sets (put_in f c.args.set c.args.way c.args.place c.with_way.result) ≡ slice_set now c.args.set (slice_set (set_in now c.args.set) c.args.way (Some c.args.place)))
    c.self.view_is
    (flat_sets-put f c.args.set c.args.way c.with_way.result c.args.place c.self.invariant within inside c.with_way.ensures.way others))
