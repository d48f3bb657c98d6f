use Rattle.std.proofs.Common.{◌≡◌, ◌≤◌, length}
use Rattle.live_run.proofs.parts.fresh_parts.Given as goal
use Rattle.live_run.specs.Openings.{AreFirstShares, AreOfSlices, AreParts}
use Rattle.machine.specs.Slices.{slice_count}

abbrev pub invariant-loop-alloc : goal.invariant-loop-alloc
invariant-loop-alloc g l = record {
  name : l.tree.name ≡ l.fn.tree.name;
  left : length l.logs.items ≤ l.tree.left;
  few : length l.logs.items ≤ slice_count g.N.RunNames.script.machine;
  logs : AreOfSlices g.N.RunNames.slices (length l.logs.items) l.logs.items;
  shares : AreFirstShares g.T.NamedTable.table (length l.logs.items) l.shares.items;
  parts : AreParts g.N.RunNames.script g.T.NamedTable.table g.N.RunNames.tree g.N.RunNames.slices (length l.logs.items) l.parts.items;
}

abbrev pub decreases-loop-alloc : goal.decreases-loop-alloc
decreases-loop-alloc g l = length l.logs.items
