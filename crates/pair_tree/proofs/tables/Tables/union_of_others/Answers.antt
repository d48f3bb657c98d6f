use Rattle.std.proofs.Common.{◌≡◌, ◌+◌, ◌∷◌, bit_or, drop, filter, length, sym, ap, ◌∙◌, arith}
use Rattle.std.specs.List.{flat_map}
use Rattle.std.proofs.lemmas.List.{drop_all}
use Rattle.pair_law.specs.Others.{is_other_in, masks_of, sides_beside}
use Rattle.pair_tree.proofs.Elements.{drop-item}
use Rattle.pair_tree.proofs.MaskUnions.{bit_or-zero, union_of-passed, union_of-taken}
use Rattle.pair_tree.proofs.tables.Tables.union_of_others.Goals.{then-is_other_in, else-is_other_in}
use Rattle.tree_law.specs.Space.{union_of}
use Rattle.pair_tree.proofs.tables.Tables.union_of_others.Goals as goal

pub loop-g-preserved : goal.loop-g-preserved
loop-g-preserved c =
    let items = c.args.self.now.groups.items in
    let f = masks_of (sides_beside c.args.m.now.l2 c.args.side) c.args.domain in
    let p = is_other_in c.args.others.but c.args.others.mode in
    let i = c.loop-g.g-index in
    let rest : drop i items ≡ c.g-item.result ∷ drop (i + 1) items = drop-item items i c.g-item.result (omega (arith, ap length c.deref-g-items.ensures.value)) (rw c.deref-g-items.ensures.value at c.g-item.is) in
    elim c.if-is_other_in.branch [
      | then-is_other_in w ↦ rw (w.ways-is, w.ways_beside-ways.ensures) (sym (union_of-taken f p c.loop-g.ways (drop i items) (drop (i + 1) items) c.g-item.result rest (sym c.is_other_in.ensures ∙ w.if-is_other_in.true)) ∙ c.loop-g.invariant)
      | else-is_other_in w ↦ rw w.ways-is (sym (union_of-passed f p c.loop-g.ways (drop i items) (drop (i + 1) items) c.g-item.result rest (sym c.is_other_in.ensures ∙ w.if-is_other_in.false)) ∙ c.loop-g.invariant)
    ]

pub returns : goal.returns
returns c =
    let items = c.args.self.now.groups.items in
    let f = masks_of (sides_beside c.args.m.now.l2 c.args.side) c.args.domain in
    let p = is_other_in c.args.others.but c.args.others.mode in
    let none = drop_all c.loop-g.g-index items (omega (arith, ap length c.deref-g-items.ensures.value)) in
    sym (bit_or-zero c.loop-g.ways) ∙ ap (λ l. bit_or c.loop-g.ways (union_of (flat_map f (filter p l)))) (sym none) ∙ c.loop-g.invariant
