use Rattle.std.proofs.Common.{◌+◌, [], List, length, sym, subst, ap, ◌∙◌}
use Rattle.run_windows.proofs.Logs.{changes_of-snoc}
use Rattle.run_windows.specs.Changes.{AreChanges}
use Rattle.run_windows.specs.Edits.{Change, changes_of}
use Rattle.run_windows.specs.declared.edit.Edit.TheVariants.{Whole}
use Rattle.run_windows.proofs.changes.closed.Goals as goal

pub returns : goal.returns
returns c =
    let log = c.args.log in
    subst (λ (l : List Change). AreChanges c.args.run.now.script.now c.args.run.now.journals.now (length c.args.run.now.journals.now.tree + 1) l)
    (sym (ap (changes_of []) c.in_ok-push.ensures.items ∙ changes_of-snoc [] log.pasts.items (record { from = log.from; edit = Whole log.latest }))) c.requires
