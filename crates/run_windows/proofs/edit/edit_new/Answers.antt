use Rattle.std.proofs.Common.{List, ap, ◌∙◌}
use Rattle.std.specs.List.{remove}
use Rattle.run_windows.proofs.PlaceEdits.{remove-insert}
use Rattle.run_windows.specs.declared.exclusive_group.ExclusiveGroup.{ExclusiveGroup}
use Rattle.run_windows.proofs.edit.edit_new.Goals as goal

pub returns-in_ok-insert-in-Some-clause-before : goal.returns-in_ok-insert-in-Some-clause-before
returns-in_ok-insert-in-Some-clause-before c =
    ap (λ (l : List ExclusiveGroup). remove l c.args.at) c.in_ok-insert-in-Some.ensures ∙ remove-insert c.args.groups.now.items c.args.at c.in-Some.now c.requires.within
