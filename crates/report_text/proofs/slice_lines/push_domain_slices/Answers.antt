use Rattle.lists.proofs.Ranges.{flat_map-range_suc}
use Rattle.report_text.specs.SliceLines.{slice_text}
use Rattle.report_text.proofs.slice_lines.push_domain_slices.Goals as goal

pub loop-slice-preserved : goal.loop-slice-preserved
loop-slice-preserved c =
    flat_map-range_suc (slice_text c.args.script.now c.args.journals.now c.args.domain) c.loop-slice.slice c.args.report.now c.loop-slice.report c.push_slice.new.report c.loop-slice.invariant c.in_ok-push_slice.ensures
