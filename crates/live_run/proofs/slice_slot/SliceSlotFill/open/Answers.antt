use Rattle.std.proofs.Common.{arith}
use Rattle.live_run.proofs.FreshParts.{AreParts-last, AreParts-none, AreParts-rest}
use Rattle.live_run.proofs.slice_slot.SliceSlotFill.open.Goals as goal
use Rattle.live_run.proofs.slice_slot.SliceSlotFill.open.Goals.{in-None, in-Some}

pub open-requires : goal.open-requires
open-requires g c = (omega arith, AreParts-last g.N.RunNames.script g.T.NamedTable.table g.N.RunNames.tree g.N.RunNames.slices g.row.I c.args.parts.now.items c.pop.new.self.items c.in-Some.part c.in-Some.ensures.items c.requires.parts)

pub returns : goal.returns
returns g c =
    let script = g.N.RunNames.script in
    let tree = g.N.RunNames.tree in
    let slices = g.N.RunNames.slices in
    let i = g.row.I in
    let parts = c.args.parts.now.items in
    let rest = c.pop.new.self.items in
    elim c.match-pop.branch [
      | in-Some w ↦ AreParts-rest script g.T.NamedTable.table tree slices i parts rest w.in-Some.part w.in-Some.ensures.items c.requires.parts
      | in-None w ↦ AreParts-none script g.T.NamedTable.table tree slices i parts rest w.in-None.ensures.items (omega (arith, c.args.parts.now.ok.0, (w.in-None.ensures.cases).0)) c.requires.parts
    ]
