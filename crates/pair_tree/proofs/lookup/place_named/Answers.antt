use Rattle.std.proofs.Common.{◌+◌, Some, drop, refl, sym, ◌∙◌, arith}
use Rattle.std.proofs.lemmas.Option.{slice_get_read}
use Rattle.pair_law.specs.State.{has_name}
use Rattle.pair_tree.proofs.Elements.{drop-item, find-taken}
use Rattle.pair_tree.proofs.lookup.place_named.Goals as goal

pub returns-then-is_named : goal.returns-then-is_named
returns-then-is_named c =
    let groups = c.args.groups.now in
    let i = c.loop-place.place in
    let g = c.index-groups-place.result in
    let p = has_name (Some c.args.name.now) in
    let rest = drop-item groups i g (omega arith) c.index-groups-place.is in
    (g, slice_get_read groups _ i g refl (omega arith) c.index-groups-place.is, sym c.loop-place.invariant ∙ find-taken p (drop i groups) (drop (i + 1) groups) g rest (sym c.is_named.ensures ∙ c.if-is_named.true))
