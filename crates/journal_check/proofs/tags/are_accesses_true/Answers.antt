use Rattle.std.proofs.Common.{[], ap, ◌∙◌, subst, sym}
use Rattle.journal_check.specs.CheckReplays.{IsReplayed}
use Rattle.journal_check.proofs.LegalTrees.{IsReplayed-zero}
use Rattle.journal_check.proofs.laws.FewCommands.{length-commands}
use Rattle.tree_law.specs.State.{opening}
use Rattle.journal_check.proofs.tags.are_accesses_true.Goals as goal

pub are_answered-holds-requires-clause-few : goal.are_answered-holds-requires-clause-few
are_answered-holds-requires-clause-few c = length-commands c.args.script.now c.args.j.now.tree c.requires.legal c.requires.once c.threads-threads.ensures.lawful

pub are_answered-holds-requires-clause-replayed : goal.are_answered-holds-requires-clause-replayed
are_answered-holds-requires-clause-replayed c =
    let first = c.in_ok-tree.ensures in
    subst (λ t. IsReplayed c.args.script.now [] t) (sym c.create-tree.ensures) (IsReplayed-zero c.args.script.now c.in_ok-tree.tree (first.machine ∙ c.machine.ensures)
    (first.state ∙ (ap (λ m. opening m c.tasks.result.now) c.machine.ensures ∙ ap (opening c.args.script.now.machine) c.tasks.ensures.tasks))
    first.epoch)
