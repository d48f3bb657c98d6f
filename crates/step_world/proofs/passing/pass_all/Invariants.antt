use Rattle.std.proofs.Common.{◌≡◌, ℕ, ◌-◌, ◌≤◌, length, replicate, None}
use Rattle.step_world.specs.Machine.{thread_at}
use Rattle.step_world.specs.Play.{StepsOf}
use Rattle.step_world.specs.Worlds.{IsWorldOf, machine_of}
use Rattle.step_world.specs.declared.thread_state.ThreadState.TheVariants.{Ready}
use Rattle.step_world.proofs.passing.pass_all.Given as goal

abbrev pub invariant-loop-addr : goal.invariant-loop-addr
invariant-loop-addr l = record {
  world : IsWorldOf l.script l.world;
  steps : (k : ℕ) × StepsOf l.script (replicate k l.t) (machine_of l.initial.world) (machine_of l.world);
  there : thread_at (machine_of l.world) l.t ≡ (record { next = l.n; state = Ready });
  free : l.world.holder ≡ None;
  phase : l.world.phase ≡ l.initial.world.phase;
  tree : l.world.tree ≡ l.initial.world.tree;
  onward : l.initial.n ≤ l.n;
}

abbrev pub decreases-loop-addr : goal.decreases-loop-addr
decreases-loop-addr l = length l.ops - l.n
