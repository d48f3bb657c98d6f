use Rattle.std.proofs.Common.{List, sym, ap, ◌∙◌}
use Rattle.std.specs.List.{slice_set}
use Rattle.run_windows.proofs.PlaceEdits.{set-back, set-own}
use Rattle.run_windows.specs.declared.exclusive_group.ExclusiveGroup.{ExclusiveGroup}
use Rattle.run_windows.proofs.edit.put_other.Goals as goal

pub returns-then-are_same-clause-now : goal.returns-then-are_same-clause-now
returns-then-are_same-clause-now c =
    let groups = c.args.groups.now.items in
    sym (ap (slice_set groups c.args.at) (sym (c.are_same.ensures c.if-are_same.true)) ∙ set-own groups c.args.at c.args.old c.requires.there)

pub returns-clause-before : goal.returns-clause-before
returns-clause-before c =
    ap (λ (l : List ExclusiveGroup). slice_set l c.args.at c.args.old) c.put.ensures ∙ set-back c.args.groups.now.items c.args.at c.args.old c.args.now c.requires.there
