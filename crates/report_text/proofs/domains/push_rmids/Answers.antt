use Rattle.std.proofs.Common.{◌++◌, ap, ◌∙◌}
use Rattle.lists.proofs.Ranges.{flat_map-range_suc}
use Rattle.run_counts.specs.DomainLines.{lines_in}
use Rattle.report_text.specs.Domains.{rmid_text}
use Rattle.report_text.proofs.domains.push_rmids.Goals as goal

pub loop-rmid-preserved : goal.loop-rmid-preserved
loop-rmid-preserved c =
    flat_map-range_suc (λ rmid. rmid_text rmid (lines_in c.args.lines.now rmid)) c.loop-rmid.rmid c.args.report.now c.loop-rmid.report c.push_rmid.new.report c.loop-rmid.invariant
    (c.in_ok-push_rmid.ensures ∙ ap (λ n. c.loop-rmid.report ++ rmid_text c.loop-rmid.rmid n) c.lines.ensures)
