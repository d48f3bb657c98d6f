use Rattle.std.proofs.Common.{◌++◌, ap, map, ◌∙◌}
use Rattle.json_report.proofs.laws.Pieces.{compact_text-array}
use Rattle.report_pieces.proofs.laws.Results.{OnOk-map}
use Rattle.json_report.specs.WindowValues.{window_value}
use Rattle.json_report.proofs.windows.push_list.Goals as goal

pub returns : goal.returns
returns c =
    OnOk-map c.push-2.result (λ last. compact_text-array (map window_value c.args.windows.now) c.args.report.now c.push.new.self c.push_items.new.report c.push-2.new.self (c.in_ok-push.ensures ∙ ap (λ t. c.args.report.now ++ t) c.as_slice.ensures)
    c.in_ok-push_items.ensures (last ∙ ap (λ t. c.push_items.new.report ++ t) c.as_slice-2.ensures)) c.push-2.ensures
