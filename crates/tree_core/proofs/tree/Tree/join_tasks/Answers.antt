use Rattle.std.proofs.Common.{sym, subst, ap, ◌∙◌}
use Rattle.tree_core.proofs.WrittenTasks as written
use Rattle.tree_law.specs.Refusals.{reply_of}
use Rattle.tree_law.specs.Sound.{IsSound}
use Rattle.tree_law.specs.State.{State}
use Rattle.tree_core.proofs.tree.Tree.join_tasks.Goals as goal

pub returns-then-is_closed-clause-reply : goal.returns-then-is_closed-clause-reply
returns-then-is_closed-clause-reply c =
    c.refused.ensures ∙ sym (ap reply_of (written.refusal-closed c.args.self.now.state c.args.group.now c.args.text.now (sym c.is_closed.ensures ∙ c.if-is_closed.true)))

pub returns-then-is_closed-clause-tree : goal.returns-then-is_closed-clause-tree
returns-then-is_closed-clause-tree c =
    let v = c.args.self.now in ap (λ (x : State). record v { state = x }) (sym (written.kept-closed v.state c.args.group.now c.args.text.now (sym c.is_closed.ensures ∙ c.if-is_closed.true)))

pub take_tasks-requires : goal.take_tasks-requires
take_tasks-requires c =
    let opened = sym c.is_closed.ensures ∙ c.if-is_closed.false in
    record { sound = subst (IsSound c.args.self.now.machine) (written.kept-open c.args.self.now.state c.args.group.now c.args.text.now opened) c.requires.sound }

pub returns-clause-reply : goal.returns-clause-reply
returns-clause-reply c =
    c.take_tasks.ensures.reply ∙ sym (ap reply_of (written.refusal-open c.args.self.now.state c.args.group.now c.args.text.now (sym c.is_closed.ensures ∙ c.if-is_closed.false)))

pub returns-clause-tree : goal.returns-clause-tree
returns-clause-tree c =
    let v = c.args.self.now in
    c.take_tasks.ensures.tree ∙ ap (λ (x : State). record v { state = x }) (sym (written.kept-open v.state c.args.group.now c.args.text.now (sym c.is_closed.ensures ∙ c.if-is_closed.false)))
