use Rattle.std.proofs.Common.{◌+◌, map, take}
use Rattle.std.proofs.lemmas.List.{get_or_default}
use Rattle.json_report.proofs.laws.Pieces.{items_told-next, length-map_take, map-take_suc}
use Rattle.json_report.specs.WindowValues.{window_value}
use Rattle.json_report.proofs.windows.push_items.Goals as goal

pub loop-i-preserved : goal.loop-i-preserved
loop-i-preserved c =
    let ws = c.args.windows.now in
    let k = c.loop-i.i in
    items_told-next (map window_value (take k ws)) (map window_value (take (k + 1) ws)) _ k c.args.report.now c.loop-i.report c.push_window.new.report (length-map_take window_value ws k c.loop-i-test.true)
    (map-take_suc window_value ws k _ c.loop-i-test.true (get_or_default ws k _ _ c.loop-i-test.true)) c.loop-i.invariant c.in_ok-push_window.ensures
