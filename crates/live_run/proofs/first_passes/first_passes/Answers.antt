use Rattle.std.proofs.Common.{length}
use Rattle.live_run.proofs.Starts.{AreNew-given}
use Rattle.live_run.proofs.first_passes.first_passes.Goals as goal
use Rattle.script_ops.specs.Values.{threads_of}

pub returns-clause-own : goal.returns-clause-own
returns-clause-own g c =
    AreNew-given g.N.RunNames.script g.N.RunNames.tree g.N.RunNames.slices c.requires.quotas (length (threads_of g.N.RunNames.script)) c.all_first.new.tree c.all_first.new.slices.items c.take_each.new.logs.items c.in_ok-own.own.items c.in_ok-passes.ensures.given c.in_ok-own.ensures
