use Rattle.std.proofs.Common.{◌+◌, map, take}
use Rattle.std.proofs.lemmas.List.{get_or_default}
use Rattle.json_report.proofs.laws.Pieces.{items_told-next_later}
use Rattle.json_report.proofs.JsonPositions.{map-map_take_suc}
use Rattle.json_report.specs.Groups.{group_value}
use Rattle.run_replay.specs.Made.{control_of}
use Rattle.json_report.proofs.json_groups.push_made.Goals as goal

pub loop-group-preserved : goal.loop-group-preserved
loop-group-preserved c =
    let f = group_value c.args.run.now.script.now c.args.run.now.journals.now in
    let g = control_of c.args.run.now.script.now.names in
    let all = c.args.made.now in
    let k = c.loop-group.group-index in
    items_told-next_later (map f (map g (take k all))) (map f (map g (take (k + 1) all))) _ c.args.report.now c.loop-group.report c.push_made_group.new.report
    (map-map_take_suc f g all k _ c.loop-group-test.true (get_or_default all k _ _ c.loop-group-test.true)) c.loop-group.invariant c.in_ok-push_made_group.ensures
