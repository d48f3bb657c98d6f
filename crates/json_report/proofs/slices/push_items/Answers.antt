use Rattle.std.proofs.Common.{◌+◌, take}
use Rattle.std.proofs.lemmas.List.{get_or_default}
use Rattle.json_report.proofs.laws.Pieces.{items_told-next}
use Rattle.json_report.proofs.Positions.{entry_values-take_suc, length-entry_values_take}
use Rattle.json_report.specs.SliceValues.{entry_values}
use Rattle.machine.specs.Maps.{parameters_of}
use Rattle.json_report.proofs.slices.push_items.Goals as goal

pub loop-p-preserved : goal.loop-p-preserved
loop-p-preserved c =
    let m = parameters_of c.args.machine.now in
    let es = c.args.entries.now in
    let k = c.loop-p.p in
    items_told-next (entry_values m 0 (take k es)) (entry_values m 0 (take (k + 1) es)) _ k c.args.report.now c.loop-p.report c.push_item.new.report (length-entry_values_take m es k c.loop-p-test.true)
    (entry_values-take_suc m es k _ c.loop-p-test.true (get_or_default es k _ _ c.loop-p-test.true)) c.loop-p.invariant c.in_ok-push_item.ensures
