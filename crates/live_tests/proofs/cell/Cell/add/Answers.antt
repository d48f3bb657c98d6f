use Rattle.std.proofs.Common.{◌++◌, refl}
use Rattle.live_tests.specs.Merged.{entries_in}
use Rattle.live_tests.proofs.Merges.{MayHappen-entry, entry_is_quiet}
use Rattle.live_tests.proofs.cell.Cell.add.Goals as goal

pub step_with-requires-clause-may : goal.step_with-requires-clause-may
step_with-requires-clause-may g c =
    MayHappen-entry (record { list = g.row.I; thread = c.worker.inside.thread; value = c.args.value }) g.row.I c.worker.inside.thread c.self.inside.items.items (entries_in c.worker.inside.share.parts)
    c.self.inside.share.parts c.worker.inside.share.parts refl refl c.self.invariant.3 c.worker.invariant.1

pub step_with-requires-clause-quiet : goal.step_with-requires-clause-quiet
step_with-requires-clause-quiet g c =
    entry_is_quiet (record { list = g.row.I; thread = c.worker.inside.thread; value = c.args.value }) (c.self.inside.share.parts ++ c.worker.inside.share.parts)
