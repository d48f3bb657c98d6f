use Rattle.std.proofs.Common.{◌++◌, ap, ◌∙◌}
use Rattle.json_report.proofs.EntryTexts.{escape-entry_text}
use Rattle.json_report.proofs.laws.Pieces.{quoted-parts}
use Rattle.report_pieces.proofs.laws.Results.{OnOk-map}
use Rattle.machine.specs.Maps.{parameters_of}
use Rattle.report_pieces.specs.EntryTexts.{entry_text}
use Rattle.json_report.proofs.slices.push_entry.Goals as goal

pub returns : goal.returns
returns c =
    let m = parameters_of c.args.machine.now in
    let text = entry_text m c.args.p c.args.entry.now in
    OnOk-map c.push-2.result (λ last. quoted-parts text c.args.report.now c.push.new.self c.push_entry_text.new.report c.push-2.new.self (escape-entry_text m c.args.p c.args.entry.now) (c.in_ok-push.ensures ∙ ap (λ t. c.args.report.now ++ t) c.as_slice.ensures) c.in_ok-push_entry_text.ensures (last ∙ ap (λ t. c.push_entry_text.new.report ++ t) c.as_slice-2.ensures)) c.push-2.ensures
