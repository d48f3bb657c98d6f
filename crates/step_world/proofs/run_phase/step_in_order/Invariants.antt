use Rattle.std.proofs.Common.{◌≡◌, take}
use Rattle.step_world.specs.Listed.{IsCurrent}
use Rattle.step_world.specs.Play.{StepsOf}
use Rattle.step_world.specs.Worlds.{IsWorldOf, machine_of}
use Rattle.step_world.proofs.run_phase.step_in_order.Given as goal

abbrev pub invariant-loop-t : goal.invariant-loop-t
invariant-loop-t l = record {
  world : IsWorldOf l.script l.world;
  steps : StepsOf l.script (take l.t-index l.order) (machine_of l.initial.world) (machine_of l.world);
  phase : l.world.phase ≡ l.initial.world.phase;
  cached : IsCurrent l.cached l.world;
}
