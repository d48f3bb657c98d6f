use Rattle.std.proofs.Common.{◌≡◌, take}
use Rattle.step_world.specs.Play.{PlaysPhasesBy, orders_of}
use Rattle.step_world.specs.Worlds.{IsWorldOf, machine_of}
use Rattle.step_world.proofs.playback.play_phases.Given as goal

abbrev pub invariant-loop-phase : goal.invariant-loop-phase
invariant-loop-phase l = record {
  world : IsWorldOf l.script l.world;
  phases : PlaysPhasesBy l.script (orders_of (take l.phase l.script.phases)) (machine_of l.initial.world) (machine_of l.world);
  now : l.world.phase ≡ l.phase;
}
