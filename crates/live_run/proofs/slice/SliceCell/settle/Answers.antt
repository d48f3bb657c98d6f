use Rattle.std.proofs.Common.{sym, subst}
use Rattle.live_run.proofs.Cells.{cell_sees}
use Rattle.live_run.proofs.slice.SliceCell.settle.Goals as goal
use Rattle.live_run.specs.Cells.{AreOfThreads, SliceCellValue, taken_from}
use Rattle.live_run.specs.Names.{name_at}

pub returns-clause-kept : goal.returns-clause-kept
returns-clause-kept g c =
    let i = g.row.I in
    let old : SliceCellValue = record { cache = c.self.inside.cache; journal = c.self.inside.journal; tree = c.self.inside.tree; share = c.self.inside.share } in
    cell_sees g.N.RunNames.script g.T.NamedTable.table g.N.RunNames.tree (name_at g.N.RunNames.slices i) i old c.show.new.pass c.args.history.now.entries c.show.ensures.seen
    (subst (AreOfThreads taken_from) (sym c.show.ensures.seen.seen_are) c.requires.threads) c.self.invariant
