use Rattle.std.proofs.Common.{Some, sym, ap, ◌∙◌}
use Rattle.group_tree.specs.declared.group.Group.{Group}
use Rattle.group_tree.proofs.Edits.{find-place, remove-without}
use Rattle.group_tree.proofs.edit.take_out.Goals as goal

pub returns-clause-without : goal.returns-clause-without
returns-clause-without c =
    let items = c.args.groups.now.items in
    c.remove.ensures.items ∙ remove-without c.args.gid items c.args.place c.remove.result c.requires.within (c.requires.there c.remove.result) c.requires.gids_differ

pub returns-clause-old : goal.returns-clause-old
returns-clause-old c =
    let items = c.args.groups.now.items in
    find-place c.args.gid items c.args.place c.remove.result c.requires.within (c.requires.there c.remove.result) c.requires.gids_differ ∙ ap (λ (g : Group). Some g) (sym c.remove.ensures.value)
