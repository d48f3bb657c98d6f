use Rattle.std.proofs.Common.{arith}
use Rattle.replay_top.proofs.SameJournals.{same_journals}
use Rattle.replay_top.proofs.same.are_same.Goals as goal

pub returns : goal.returns
returns c = λ all. same_journals c.args.a.now c.args.b.now c.args.slices c.requires.first c.requires.second c.loop-i.invariant.tree
    (λ k below. c.loop-i.invariant.same k (omega (arith, below, c.loop-i-test.false)))
