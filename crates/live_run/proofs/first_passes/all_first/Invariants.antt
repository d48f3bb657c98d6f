use Rattle.std.proofs.Common.{◌-◌, length}
use Rattle.live_run.proofs.first_passes.all_first.Given as goal
use Rattle.live_run.specs.Openings.{AreFirst, AreGivenTo}
use Rattle.live_run.specs.Sharing.{IsShareOf}
use Rattle.schedule_law.specs.LiveParts.{first_threads}
use Rattle.script_ops.specs.Values.{threads_of}

abbrev pub invariant-loop-t : goal.invariant-loop-t
invariant-loop-t g l = record {
  given : AreGivenTo g.N.RunNames.script g.N.RunNames.tree g.N.RunNames.slices (length (threads_of g.N.RunNames.script)) l.t l.tree l.slices.items;
  first : AreFirst l.t l.all.items;
  workers : IsShareOf g.T.NamedTable.table (first_threads l.t (length (threads_of g.N.RunNames.script) - l.t)) l.workers;
}
