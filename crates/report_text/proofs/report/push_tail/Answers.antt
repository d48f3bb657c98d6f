use Rattle.report_pieces.proofs.laws.Results.{OnOk-map}
use Rattle.report_text.proofs.laws.Halves.{tail_of-parts}
use Rattle.report_text.proofs.report.push_tail.Goals as goal

pub returns : goal.returns
returns c =
    OnOk-map c.push_total.result (λ last. tail_of-parts c.args.run.now.script.now c.args.run.now.journals.now c.args.flags c.args.windows.now c.args.report.now c.push_windows.new.report c.push_groups.new.report c.push_domains.new.report c.push_total.new.report
    c.in_ok-push_windows.ensures c.in_ok-push_groups.ensures c.in_ok-push_domains.ensures last) c.push_total.ensures
