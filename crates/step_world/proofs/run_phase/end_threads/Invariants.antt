use Rattle.std.proofs.Common.{◌≡◌, None}
use Rattle.std.specs.List.{range_with_len}
use Rattle.step_world.specs.Play.{EndInTurn}
use Rattle.step_world.specs.Worlds.{IsWorldOf, machine_of}
use Rattle.step_world.proofs.run_phase.end_threads.Given as goal

abbrev pub invariant-loop-k : goal.invariant-loop-k
invariant-loop-k l = record {
  world : IsWorldOf l.script l.world;
  ends : EndInTurn l.script (range_with_len l.first l.k) (machine_of l.initial.world) (machine_of l.world);
  free : l.world.holder ≡ None;
  phase : l.world.phase ≡ l.initial.world.phase;
}
