use Rattle.std.proofs.Common.{arith}
use Rattle.run_replay.proofs.laws.Playbacks.{At-entries, length-entries}
use Rattle.run_windows.proofs.changes.follow.Goals as goal

pub step-requires-clause-entry : goal.step-requires-clause-entry
step-requires-clause-entry c =
    let tree = c.args.run.now.journals.now.tree in
    let es = c.tree-entries.result.now in
    let all = length-entries es tree c.tree-entries.ensures in
    let few = c.requires.within in
    let before = c.loop-next-test.true in
    At-entries es tree c.tree-entries.ensures c.loop-next.next c.index-entries-next.result (omega (arith, all, few, before)) c.index-entries-next.is
