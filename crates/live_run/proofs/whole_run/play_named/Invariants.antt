use Rattle.live_run.specs.Phases.{AreBefore}
use Rattle.live_run.specs.Sharing.{IsAtPhase}
use Rattle.live_run.proofs.whole_run.play_named.Given as goal

abbrev pub invariant-loop-phase : goal.invariant-loop-phase
invariant-loop-phase g l = record {
  before : AreBefore g.N.RunNames.script l.phase l.passes.items;
  turn : IsAtPhase g.N.RunNames.script g.T.NamedTable.table l.phase l.turn;
}
