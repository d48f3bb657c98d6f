use Rattle.std.proofs.Common.{ℕ, ◌++◌, List, ap, ◌∙◌}
use Rattle.report_text.proofs.laws.Halves.{head_of-parts}
use Rattle.report_text.specs.Halves.{head_of}
use Rattle.report_text.proofs.report.head.Goals as goal

pub returns-clause-text : goal.returns-clause-text
returns-clause-text g c =
    head_of-parts c.args.run.now.script.now c.args.run.now.journals.now c.args.flags c.in_ok-report.report c.push_commands_part.new.report c.push_journal.new.report c.in_ok-push_commands_part.ensures.text c.in_ok-push_journal.ensures
    ∙ ap (λ (l : List ℕ). l ++ head_of c.args.run.now.script.now c.args.run.now.journals.now c.args.flags) c.in_ok-report.ensures
