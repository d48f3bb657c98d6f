use Rattle.std.proofs.Common.{◌≡◌, true, false, sym, ◌∙◌}
use Rattle.std.specs.Prelude.{IsTrue}
use Rattle.journal_check.proofs.LegalTrees.{IfOk-steps}
use Rattle.journal_check.specs.CheckReplays.{IsAnswer}
use Rattle.journal_check.specs.Traces.{Takes, TakesCommand}
use Rattle.journal_check.specs.declared.trace.Step.{Step}
use Rattle.run_law.specs.Entries.{entry_value}
use Rattle.run_law.specs.Ops.{is_command}
use Rattle.journal_check.proofs.trace.take_op.Goals as goal

pub returns-then-not-is_command : goal.returns-then-not-is_command
returns-then-not-is_command c command answer = (let wrong : true ≡ false = sym command ∙ (sym c.is_command.ensures ∙ c.if-not-is_command.true) in cc)

pub returns : goal.returns
returns c =
    let old = c.args.tree.now in
    let new = c.take_step.new.tree in
    let op = c.args.op.now in
    let h = entry_value c.args.entry.now in
    let command : IsTrue (is_command op) = sym c.is_command.ensures ∙ c.if-not-is_command.false in
    IfOk-steps c.take_step.result (IsAnswer old.machine old.state op h → ⊥) (IsTrue (is_command op) → IsAnswer old.machine old.state op h → ⊥) (λ (s : Step). Takes old new op h s) (λ (s : Step). TakesCommand old new op h s)
    (λ never is answer. never answer) (λ s takes. (command, takes)) c.take_step.ensures
