use Rattle.std.proofs.Common.{List, subst, sym}
use Rattle.group_tree.specs.Indices.{IsIndex}
use Rattle.group_tree.specs.declared.index.Entry.{Entry}
use Rattle.group_tree.proofs.Indices.{IsIndex-insert}
use Rattle.group_tree.proofs.index.enter.Goals as goal

pub returns : goal.returns
returns c = λ key_of groups but there.
    let items = c.args.entries.now.items in
    let within = rw c.as_slice.ensures.value at c.count_before-from.ensures.within in
    let parted = rw c.as_slice.ensures.value at c.count_before-from.ensures.parted in
    let parts = parted but.rising in
    subst (λ (xs : List Entry). IsIndex key_of groups xs) (sym c.insert.ensures.items) (IsIndex-insert key_of groups items c.args.new c.count_before-from.result but there within parts.0 parts.1)
