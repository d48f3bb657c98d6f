use Rattle.std.proofs.Common.{◌≡◌}
use Rattle.step_world.specs.Turns.{IsLettingGo, holding_left}
use Rattle.step_world.specs.Worlds.{IsWorldOf, machine_of}
use Rattle.step_world.proofs.run_phase.let_go.Given as goal

abbrev pub invariant-loop-world : goal.invariant-loop-world
invariant-loop-world l = record {
  world : IsWorldOf l.script l.world;
  going : IsLettingGo l.script l.initial.world.holder (machine_of l.initial.world) (machine_of l.world);
  phase : l.world.phase ≡ l.initial.world.phase;
}

abbrev pub decreases-loop-world : goal.decreases-loop-world
decreases-loop-world l = holding_left l.script (machine_of l.world) l.world.holder
