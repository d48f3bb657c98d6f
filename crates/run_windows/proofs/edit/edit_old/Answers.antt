use Rattle.std.proofs.Common.{List, ap, ◌∙◌}
use Rattle.std.specs.List.{insert}
use Rattle.run_windows.proofs.PlaceEdits.{insert-remove}
use Rattle.run_windows.specs.declared.exclusive_group.ExclusiveGroup.{ExclusiveGroup}
use Rattle.run_windows.proofs.edit.edit_old.Goals as goal

pub returns-in-None-clause-before : goal.returns-in-None-clause-before
returns-in-None-clause-before c =
    ap (λ (l : List ExclusiveGroup). insert l c.args.at c.args.old) c.remove.ensures ∙ insert-remove c.args.groups.now.items c.args.at c.args.old c.requires.there
