use Rattle.std.proofs.Common.{◌≡◌, ◌+◌, ◌-◌, length, sum_by, take}
use Rattle.live_run.proofs.command.follow_all.Given as goal
use Rattle.live_law.specs.SeenJournals.{HasGrown}
use Rattle.live_run.specs.Names.{history_of, seen_by}
use Rattle.live_run.specs.Commands.{FollowsAt}
use Rattle.run_law.specs.Jobs.{looks_of}
use Rattle.run_law.specs.Targets.{slices_for}

abbrev pub invariant-loop-q : goal.invariant-loop-q
invariant-loop-q g l = record {
  history : l.history ≡ l.fn.history;
  tree : l.side.seen.tree ≡ l.fn.side.seen.tree;
  thread : l.side.seen.thread ≡ l.fn.side.seen.thread;
  grown : HasGrown (seen_by l.fn.side.seen) (seen_by l.side.seen);
  at : FollowsAt g.N.RunNames.script g.T.NamedTable.table l.turn.number (l.turn.epoch - 1) l.turn.op.now (length (looks_of g.N.RunNames.script (history_of l.fn.side.seen.tree.seen) (l.turn.epoch - 1) l.turn.op.now) + sum_by (slices_for g.N.RunNames.script.machine) (take l.q l.all)) l.side.seen l.side.share;
}

abbrev pub invariant-loop-x : goal.invariant-loop-x
invariant-loop-x g l = record {
  history : l.history ≡ l.fn.history;
  tree : l.side.seen.tree ≡ l.fn.side.seen.tree;
  thread : l.side.seen.thread ≡ l.fn.side.seen.thread;
  grown : HasGrown (seen_by l.fn.side.seen) (seen_by l.side.seen);
  at : FollowsAt g.N.RunNames.script g.T.NamedTable.table l.turn.number (l.turn.epoch - 1) l.turn.op.now (length (looks_of g.N.RunNames.script (history_of l.fn.side.seen.tree.seen) (l.turn.epoch - 1) l.turn.op.now) + sum_by (slices_for g.N.RunNames.script.machine) (take l.q l.all) + l.x) l.side.seen l.side.share;
}
