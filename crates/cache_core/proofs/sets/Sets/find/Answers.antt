use Rattle.std.proofs.Common.{◌≡◌, refl, ℕ, ◌+◌, ◌*◌, ◌<◌, List, Option, length, MatchOption, slice_index, subst, sym, ◌∙◌, ap, arith}
use Rattle.std.proofs.lemmas.List.{get_or_default}
use Rattle.cache_core.specs.declared.cached_line.CachedLine.{CachedLine}
use Rattle.cache_core.specs.Fills.{Holds}
use Rattle.cache_core.specs.Flat.{Flat, flat_sets}
use Rattle.cache_core.specs.Places.{resident_in, set_in}
use Rattle.cache_core.proofs.FlatPlaces.{le-places, here_in}
use Rattle.cache_core.proofs.FlatReads.{IsRow, IsRow-flat_sets, MatchOption-find, line-from_Holds}
use Rattle.cache_core.proofs.FlatViews.{lt-sets}
use Rattle.cache_core.proofs.sets.Sets.find.Goals as goal

pub lines_of_set-lines-requires : goal.lines_of_set-lines-requires
lines_of_set-lines-requires c =
    let i = c.self.inside in
    let f : Flat = record { ways = i.ways; valid = i.valid.items; lines = i.lines; used = i.used.items; rmids = i.rmids.items } in
    let within : c.args.set < length f.valid = lt-sets f c.args.self.now c.args.set c.self.view_is c.requires in
    omega (arith, le-places (length f.valid) f.ways c.args.set within, c.self.invariant.lines, ap (λ (ls : List ℕ). length ls) c.lines.ensures)

pub index-requires : goal.index-requires
index-requires c =
    let i = c.self.inside in
    let f : Flat = record { ways = i.ways; valid = i.valid.items; lines = i.lines; used = i.used.items; rmids = i.rmids.items } in
    omega (arith, lt-sets f c.args.self.now c.args.set c.self.view_is c.requires)

pub returns : goal.returns
returns c =
    let i = c.self.inside in
    let f : Flat = record { ways = i.ways; valid = i.valid.items; lines = i.lines; used = i.used.items; rmids = i.rmids.items } in
    let set : ℕ = c.args.set in
    let within : set < length f.valid = lt-sets f c.args.self.now set c.self.view_is c.requires in
    let value : c.index.result.now ≡ slice_index f.valid set = c.index.ensures ∙ get_or_default f.valid set c.index.result.now 0 within in
    let row : IsRow (set_in (flat_sets f) set) f.ways c.index.result.now (here_in f set) = subst (λ v. IsRow (set_in (flat_sets f) set) f.ways v (here_in f set)) (sym value) (IsRow-flat_sets f set within) in
    let reads : (w : ℕ) → w < f.ways → slice_index c.lines_of_set-lines.result.now w ≡ slice_index f.lines (set * f.ways + w) = λ w l. c.lines_of_set-lines.ensures.items w l ∙ ap (λ ps. slice_index ps (set * f.ways + w)) c.lines.ensures in
    subst (λ (now : List (List (Option CachedLine))). MatchOption c.find.result ((way : ℕ) → Holds (resident_in (set_in now set)) c.args.line way → ⊥) (λ way. (way < length (set_in now set)) × Holds (resident_in (set_in now set)) c.args.line way))
    c.self.view_is
    (MatchOption-find (set_in (flat_sets f) set) f.ways c.index.result.now (here_in f set) c.lines_of_set-lines.result.now c.args.line c.find.result row c.lines_of_set-lines.ensures.count reads c.find.ensures)

pub returns-then-not-may_have : goal.returns-then-not-may_have
returns-then-not-may_have c way holds =
    let i = c.self.inside in
    let f : Flat = record { ways = i.ways; valid = i.valid.items; lines = i.lines; used = i.used.items; rmids = i.rmids.items } in
    let within : c.args.set < length f.valid = lt-sets f c.args.self.now c.args.set c.self.view_is c.requires in
    let held : Holds (resident_in (set_in (flat_sets f) c.args.set)) c.args.line way = subst (λ (now : List (List (Option CachedLine))). Holds (resident_in (set_in now c.args.set)) c.args.line way) (sym c.self.view_is) holds in
    c.if-not-may_have.ensures refl (c.args.set * f.ways + way) (line-from_Holds f c.args.set c.args.line way within held)
