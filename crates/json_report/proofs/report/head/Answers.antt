use Rattle.std.proofs.Common.{ℕ, ◌++◌, List, ap, ◌∙◌}
use Rattle.json_report.proofs.laws.Halves.{head_of-parts}
use Rattle.json_report.specs.Halves.{head_of}
use Rattle.json_report.proofs.report.head.Goals as goal

pub returns-clause-text : goal.returns-clause-text
returns-clause-text g c =
    head_of-parts c.args.run.now.script.now c.args.run.now.journals.now c.args.flags c.in_ok-report.report c.push.new.self c.push_commands_part.new.report (c.in_ok-push.ensures ∙ ap (λ (t : List ℕ). c.in_ok-report.report ++ t) c.as_slice.ensures)
    c.in_ok-push_commands_part.ensures.text
    ∙ ap (λ (l : List ℕ). l ++ head_of c.args.run.now.script.now c.args.run.now.journals.now c.args.flags) c.in_ok-report.ensures
