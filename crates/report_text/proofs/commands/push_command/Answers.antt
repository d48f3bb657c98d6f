use Rattle.std.proofs.Common.{ℕ, List, ◌++◌, Option, ap, ap₂, ◌∙◌}
use Rattle.report_pieces.proofs.laws.Results.{OnOk-map}
use Rattle.report_pieces.specs.Results.{result_by, words_by}
use Rattle.report_text.proofs.CommandLines.{command_line-parts}
use Rattle.run_law.specs.Entries.{entry_value}
use Rattle.run_law.specs.TreeHistory.{TreeEntryValue}
use Rattle.run_replay.specs.Playbacks.{state_before}
use Rattle.script_ops.specs.declared.op.Op.{Op}
use Rattle.report_text.proofs.commands.push_command.Goals as goal

pub returns-clause-text : goal.returns-clause-text
returns-clause-text g c =
    let script = c.args.command.now.run.script.now in
    let j = c.args.command.now.run.journals.now in
    let h : TreeEntryValue = entry_value c.args.command.now.entry.now in
    let words = c.in_ok-push_words.ensures ∙ ap₂ (λ (names : List (List ℕ)) (op : Option Op). c.push_place.new.report ++ words_by names op) c.names.ensures c.op-op.ensures.op in
    let result = c.in_ok-push_result.ensures ∙ ap (λ (op : Option Op). c.push.new.self ++ result_by j h op) c.op-op.ensures.op in
    OnOk-map c.push_given_lines.result (λ lines. command_line-parts script j (state_before script j.tree c.args.command.now.position) c.args.command.now.position h c.args.report.now c.push_place.new.report c.push_words.new.report c.push.new.self
    c.push_result.new.report c.push-2.new.self c.push_given_lines.new.report c.in_ok-push_place.ensures words (c.in_ok-push.ensures ∙ ap (λ t. c.push_words.new.report ++ t) c.as_slice.ensures) result
    (c.in_ok-push-2.ensures ∙ ap (λ t. c.push_result.new.report ++ t) c.as_slice-2.ensures) lines) c.push_given_lines.ensures.text
