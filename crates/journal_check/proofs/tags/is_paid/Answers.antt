use Rattle.std.proofs.Common.{◌≡◌, true, false, take, Some, None, sym, ap, ◌∙◌, subst}
use Rattle.journal_check.proofs.PaidAccesses.{IsPaid-tag}
use Rattle.journal_check.specs.OpKinds.{is_access_of}
use Rattle.run_law.proofs.laws.Tasks.{tasks_of-tree_after}
use Rattle.script_ops.specs.Fits.{Fits}
use Rattle.script_ops.specs.Values.{op_at}
use Rattle.script_ops.specs.declared.op.Op.{Op}
use Rattle.tree_law.specs.State.{tasks_of}
use Rattle.journal_check.proofs.tags.is_paid.Goals as goal

pub is_tag_of-requires : goal.is_tag_of-requires
is_tag_of-requires c =
    let script = c.args.script.now in
    let t = c.args.tree.now in
    let tasks : tasks_of t.state ≡ script.tasks = ap tasks_of c.requires.replayed.state ∙ tasks_of-tree_after script (take c.args.entry.now.epoch c.args.j.now.tree) in
    subst (λ o. Fits t.machine (tasks_of t.state) o) (sym c.get.ensures)
    (subst (λ m. Fits m (tasks_of t.state) c.in-Some.op) (sym c.requires.replayed.machine) (subst (λ ts. Fits script.machine ts c.in-Some.op) (sym tasks) c.in-Some.ensures.fit))

pub returns-in-Some-clause-answer : goal.returns-in-Some-clause-answer
returns-in-Some-clause-answer c =
    let script = c.args.script.now in
    let tree = c.args.j.now.tree in
    let e = c.args.entry.now in
    let t = c.args.tree.now in
    let op = c.get.result.now in
    let is : op_at script e.thread e.op ≡ Some op = sym c.in-Some.ensures.op ∙ ap (λ (o : Op). Some o) (sym c.get.ensures) in
    let same = IsPaid-tag script tree e t c.requires.replayed c.requires.epoch op is c.requires.access in
    let told = c.is_tag_of.ensures.answer in
    (λ shown. same.0 (told.0 shown), λ paid. told.1 (same.1 paid))

pub returns-in-None : goal.returns-in-None
returns-in-None c = absurd (
    let e = c.args.entry.now in
    let none : op_at c.args.script.now e.thread e.op ≡ None = sym c.in-None.ensures.op in
    let wrong : true ≡ false = sym c.requires.access ∙ ap is_access_of none in
    cc)
