use Rattle.std.proofs.Common.{◌≡◌, ◌+◌}
use Rattle.run_replay.specs.Playbacks.{HasTaken}
use Rattle.run_windows.specs.Changes.{AreChanges, logged}
use Rattle.run_windows.proofs.changes.follow.Given as goal

abbrev pub invariant-loop-next : goal.invariant-loop-next
invariant-loop-next l = record {
  taken : HasTaken l.run.script.now l.run.journals.now.tree l.replay;
  epoch : l.replay.epoch ≡ l.next;
  changes : AreChanges l.run.script.now l.run.journals.now (l.replay.epoch + 1) (logged l.log);
}
