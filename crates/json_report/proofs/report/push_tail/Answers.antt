use Rattle.std.proofs.Common.{◌++◌, ap, ◌∙◌}
use Rattle.json_report.proofs.laws.Halves.{tail_of-parts}
use Rattle.report_pieces.proofs.laws.Results.{OnOk-map}
use Rattle.json_report.proofs.report.push_tail.Goals as goal

pub returns : goal.returns
returns c =
    OnOk-map c.push.result (λ last. tail_of-parts c.args.run.now.script.now c.args.run.now.journals.now c.args.flags c.args.windows.now c.args.report.now c.push_domains.new.report c.push_groups.new.report c.push_journal_part.new.report c.push_total.new.report
    c.push_windows_part.new.report c.push.new.self c.in_ok-push_domains.ensures c.in_ok-push_groups.ensures c.in_ok-push_journal_part.ensures c.in_ok-push_total.ensures c.in_ok-push_windows_part.ensures
    (last ∙ ap (λ t. c.push_windows_part.new.report ++ t) c.as_slice.ensures)) c.push.ensures
