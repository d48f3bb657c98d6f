use Rattle.std.proofs.Common.{◌++◌, ap, map, true, ◌∙◌}
use Rattle.std.specs.Prelude.{codes}
use Rattle.std.specs.Str.Lines.{lines}
use Rattle.json_report.proofs.laws.Pieces.{members_told-array}
use Rattle.report_pieces.proofs.laws.Results.{OnOk-map}
use Rattle.serde_json.specs.Data.{string}
use Rattle.json_report.proofs.texts.push_text_lines.Goals as goal

pub returns : goal.returns
returns c =
    OnOk-map c.push-2.result (λ last. members_told-array true (codes "text") (map string (lines c.args.text.now)) c.args.report.now c.push_key.new.report c.push.new.self c.push_lines.new.report c.push-2.new.self
    c.in_ok-push_key.ensures (c.in_ok-push.ensures ∙ ap (λ t. c.push_key.new.report ++ t) c.as_slice.ensures) c.in_ok-push_lines.ensures (last ∙ ap (λ t. c.push_lines.new.report ++ t) c.as_slice-2.ensures)) c.push-2.ensures
