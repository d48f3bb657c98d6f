use Rattle.std.proofs.Common.{sym, subst, ◌+◌}
use Rattle.live_run.proofs.FreshParts.{AreSettled-push}
use Rattle.live_run.proofs.slice_slot.SliceSlotFill.settle.Goals as goal
use Rattle.live_run.specs.Openings.{AreSettled}

pub returns-in-Some-clause-after : goal.returns-in-Some-clause-after
returns-in-Some-clause-after g c =
    let script = g.N.RunNames.script in
    let tree = g.N.RunNames.tree in
    let slices = g.N.RunNames.slices in
    let history = c.args.history.now.entries in
    subst (AreSettled script g.T.NamedTable.table tree slices history (g.row.I + 1)) (sym c.push_reserved.ensures.items) (AreSettled-push script g.T.NamedTable.table tree slices history g.row.I c.args.into.now.items c.settle.result c.settle.ensures.kept c.settle.ensures.seen c.requires.before)
