use Rattle.std.proofs.Common.{false, ◌++◌, ap, ◌∙◌}
use Rattle.std.specs.Prelude.{codes}
use Rattle.json_report.proofs.laws.Pieces.{members_told-array}
use Rattle.json_report.specs.Commands.{command_values}
use Rattle.report_pieces.proofs.laws.Results.{OnOk-map}
use Rattle.tree_law.specs.State.{opening}
use Rattle.json_report.proofs.commands.push_list.Goals as goal

pub returns-clause-text : goal.returns-clause-text
returns-clause-text g c =
    let script = c.args.run.now.script.now in
    let j = c.args.run.now.journals.now in
    OnOk-map c.push-2.result (λ last. members_told-array false (codes "commands") (command_values script j (opening script.machine script.tasks) 0 j.tree) c.args.report.now c.push_key.new.report c.push.new.self c.push_items.new.report c.push-2.new.self c.in_ok-push_key.ensures
    (c.in_ok-push.ensures ∙ ap (λ t. c.push_key.new.report ++ t) c.as_slice.ensures) c.in_ok-push_items.ensures.text (last ∙ ap (λ t. c.push_items.new.report ++ t) c.as_slice-2.ensures)) c.push-2.ensures
