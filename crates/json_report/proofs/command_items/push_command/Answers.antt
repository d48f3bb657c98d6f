use Rattle.std.proofs.Common.{ℕ, List, true, [], ◌∷◌, ◌++◌, Option, ap, ap₂, ◌∙◌}
use Rattle.std.specs.Prelude.{codes}
use Rattle.json_report.proofs.Objects.{command_value-parts}
use Rattle.report_pieces.proofs.laws.Results.{OnOk-map}
use Rattle.report_pieces.specs.Results.{result_by, words_by}
use Rattle.json_report.specs.Pieces.{members_told}
use Rattle.json_report.specs.Values.{whole}
use Rattle.run_law.specs.Entries.{entry_value}
use Rattle.run_law.specs.TreeHistory.{TreeEntryValue}
use Rattle.run_replay.specs.Playbacks.{state_before}
use Rattle.script_ops.specs.declared.op.Op.{Op}
use Rattle.serde_json.specs.Data.{string}
use Rattle.json_report.proofs.command_items.push_command.Goals as goal

pub returns-clause-text : goal.returns-clause-text
returns-clause-text g c =
    let script = c.args.command.now.run.script.now in
    let j = c.args.command.now.run.journals.now in
    let h : TreeEntryValue = entry_value c.args.command.now.entry.now in
    let result =
    c.in_ok-push_result_text.ensures
    ∙ ap (λ (op : Option Op). c.push_number-2.new.report ++ members_told true ((codes "result", string (result_by j h op)) ∷ [])) c.op-op.ensures.op in
    let words =
    c.in_ok-push_words_text.ensures
    ∙ ap₂ (λ (names : List (List ℕ)) (op : Option Op). c.push_number-3.new.report ++ members_told true ((codes "words", string (words_by names op)) ∷ [])) c.names.ensures c.op-op.ensures.op in
    OnOk-map c.push-2.result (λ last. command_value-parts script j (state_before script j.tree c.args.command.now.position) c.args.command.now.position h c.args.report.now c.push.new.self c.push_number.new.report c.push_number-2.new.report
    c.push_result_text.new.report c.push_given_lines.new.report c.push_number-3.new.report c.push_words_text.new.report c.push-2.new.self (c.in_ok-push.ensures ∙ ap (λ t. c.args.report.now ++ t) c.as_slice.ensures) c.in_ok-push_number.ensures
    (c.in_ok-push_number-2.ensures ∙ ap (λ n. c.push_number.new.report ++ members_told true ((codes "op", whole n) ∷ [])) c.from.ensures) result c.in_ok-push_given_lines.ensures.text (c.in_ok-push_number-3.ensures ∙ ap (λ n. c.push_given_lines.new.report ++ members_told true ((codes "thread", whole n) ∷ [])) c.from-2.ensures) words (last ∙ ap (λ t. c.push_words_text.new.report ++ t) c.as_slice-2.ensures)) c.push-2.ensures
