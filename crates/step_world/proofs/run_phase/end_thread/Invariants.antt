use Rattle.std.proofs.Common.{◌≡◌, ℕ, length, replicate, None}
use Rattle.step_world.specs.Play.{StepsOf}
use Rattle.step_world.specs.Turns.{turns_left}
use Rattle.step_world.specs.Worlds.{IsWorldOf, machine_of}
use Rattle.step_world.proofs.run_phase.end_thread.Given as goal

abbrev pub invariant-loop-op : goal.invariant-loop-op
invariant-loop-op l = record {
  world : IsWorldOf l.script l.world;
  steps : (n : ℕ) × StepsOf l.script (replicate n l.t) (machine_of l.initial.world) (machine_of l.world);
  free : l.world.holder ≡ None;
  phase : l.world.phase ≡ l.initial.world.phase;
  count : length l.world.threads.items ≡ length l.initial.world.threads.items;
}

abbrev pub decreases-loop-op : goal.decreases-loop-op
decreases-loop-op l = turns_left l.script (machine_of l.world) l.t
