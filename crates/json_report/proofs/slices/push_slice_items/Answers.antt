use Rattle.std.proofs.Common.{◌+◌, map}
use Rattle.std.specs.List.{range_with_len}
use Rattle.json_report.proofs.laws.Pieces.{items_told-next}
use Rattle.json_report.proofs.Positions.{length-map_range, map-range_suc}
use Rattle.json_report.specs.SliceValues.{slice_value}
use Rattle.json_report.proofs.slices.push_slice_items.Goals as goal

pub loop-i-preserved : goal.loop-i-preserved
loop-i-preserved c =
    let f = slice_value c.args.script.now c.args.journals.now in
    let i = c.loop-i.i in
    items_told-next (map f (range_with_len 0 i)) (map f (range_with_len 0 (i + 1))) (f i) i c.args.report.now c.loop-i.report c.push_slice.new.report (length-map_range f i) (map-range_suc f i) c.loop-i.invariant c.in_ok-push_slice.ensures
