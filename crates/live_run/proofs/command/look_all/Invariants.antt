use Rattle.std.proofs.Common.{◌≡◌, ◌+◌, ◌≤◌, length}
use Rattle.live_run.proofs.command.look_all.Given as goal
use Rattle.live_law.specs.SeenJournals.{HasGrown}
use Rattle.live_run.specs.Commands.{LooksAt}
use Rattle.live_run.specs.Names.{seen_by}

abbrev pub invariant-loop-q : goal.invariant-loop-q
invariant-loop-q g l = record {
  history : l.history ≡ l.fn.history;
  tree : l.side.seen.tree ≡ l.fn.side.seen.tree;
  thread : l.side.seen.thread ≡ l.fn.side.seen.thread;
  grown : HasGrown (seen_by l.fn.side.seen) (seen_by l.side.seen);
  room : length l.counts ≤ l.looks.spare + l.q;
  at : LooksAt g.N.RunNames.script g.T.NamedTable.table l.turn.number l.turn.op.now l.q 0 0 l.looks.numbers l.side.seen l.side.share;
}

abbrev pub invariant-loop-x : goal.invariant-loop-x
invariant-loop-x g l = record {
  history : l.history ≡ l.fn.history;
  tree : l.side.seen.tree ≡ l.fn.side.seen.tree;
  thread : l.side.seen.thread ≡ l.fn.side.seen.thread;
  grown : HasGrown (seen_by l.fn.side.seen) (seen_by l.side.seen);
  at : LooksAt g.N.RunNames.script g.T.NamedTable.table l.turn.number l.turn.op.now l.q l.x l.lines l.looks.numbers l.side.seen l.side.share;
}
