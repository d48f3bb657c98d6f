use Rattle.std.proofs.Common.{◌∙◌}
use Rattle.group_tree.proofs.Edits.{find-place, refill-set, set-replaced}
use Rattle.group_tree.proofs.edit.put.Goals as goal

pub returns-clause-replaced : goal.returns-clause-replaced
returns-clause-replaced c =
    let items = c.args.groups.now.items in
    rw c.deref_mut.ensures.value
    (refill-set items c.args.place c.args.g ∙ set-replaced c.args.g items c.args.place c.args.g c.requires.within (c.requires.there c.args.g) c.requires.gids_differ)

pub returns-clause-old : goal.returns-clause-old
returns-clause-old c =
    rw c.deref.ensures.0
    (find-place c.args.g.gid c.args.groups.now.items c.args.place _ c.requires.within (c.requires.there _) c.requires.gids_differ)
