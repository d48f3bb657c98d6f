use Rattle.std.proofs.lemmas.List.{get_or_default}
use Rattle.machine.specs.Maps.{parameters_of}
use Rattle.report_text.proofs.SliceTexts.{entry_lines-take_suc}
use Rattle.report_text.proofs.slice_lines.push_entries.Goals as goal

pub loop-p-preserved : goal.loop-p-preserved
loop-p-preserved c =
    entry_lines-take_suc (parameters_of c.args.machine.now) c.args.entries.now c.loop-p.p _ c.args.report.now c.loop-p.report c.push_entry_line.new.report c.loop-p-test.true (get_or_default c.args.entries.now c.loop-p.p _ _ c.loop-p-test.true)
    c.loop-p.invariant c.in_ok-push_entry_line.ensures
