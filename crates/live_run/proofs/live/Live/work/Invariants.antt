use Rattle.std.proofs.Common.{◌≡◌, true}
use Rattle.live_law.specs.SeenJournals.{HasGrown}
use Rattle.live_run.proofs.live.Live.work.Given as goal
use Rattle.live_run.specs.Names.{seen_by}

abbrev pub invariant-loop-i : goal.invariant-loop-i
invariant-loop-i g l = record {
  thread : l.p.seen.thread ≡ l.fn.p.seen.thread;
  next : l.p.next ≡ l.i;
  begun : l.p.begun ≡ true;
  grown : HasGrown (seen_by l.fn.p.seen) (seen_by l.p.seen);
}
