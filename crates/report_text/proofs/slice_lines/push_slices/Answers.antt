use Rattle.lists.proofs.Ranges.{flat_map-range_suc}
use Rattle.report_text.specs.SliceLines.{domain_slices}
use Rattle.report_text.proofs.slice_lines.push_slices.Goals as goal

pub loop-domain-preserved : goal.loop-domain-preserved
loop-domain-preserved c =
    flat_map-range_suc (domain_slices c.args.script.now c.args.journals.now) c.loop-domain.domain c.args.report.now c.loop-domain.report c.push_domain_slices.new.report c.loop-domain.invariant c.in_ok-push_domain_slices.ensures
