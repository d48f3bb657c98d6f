use Rattle.std.proofs.Common.{subst}
use Rattle.live_run.proofs.Recalls.{may_recall}
use Rattle.live_run.specs.CachedTags.{HoldsCached, IsNoted}
use Rattle.live_run.proofs.thread_side.ThreadSide.recall.Goals as goal

pub recall-requires : goal.recall-requires
recall-requires g c = record {
  may = may_recall g.N.RunNames.script g.T.NamedTable.table c.args.task c.args.cpu c.args.self.now.seen c.args.self.now.share c.in_ok-given.given c.requires.lawful c.requires.worker
      (subst (IsNoted c.args.self.now.share) c.in_ok-given.was c.requires.noted) (subst (HoldsCached g.N.RunNames.script c.args.self.now.seen) c.in_ok-given.was c.requires.cached) c.if-given-task.false c.if-given-cpu.false;
}
