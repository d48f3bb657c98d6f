-- What is found out once for all steps of an order list.
-- (For functions and proofs: no promise of the program stands on it.)
use Rattle.std.specs.Prelude.{◌≡◌, ℕ, ◌+◌, ◌≤◌, IfSome, Option, length}
use Rattle.script_ops.specs.Values.{ScriptValue, first_thread, phase_at, threads_of}
use Rattle.step_world.specs.Passing.{IsResolved}
use Rattle.step_world.specs.declared.listed.CachedTag.{CachedTag}
use Rattle.step_world.specs.declared.listed.PhaseThreads.{PhaseThreads}
use Rattle.step_world.specs.declared.world.World.{World}

-- these are the threads of a phase
pub record AreOf (script : ScriptValue) (phase : ℕ) (threads : PhaseThreads) : Type 0 where
  pub first : threads.first ≡ first_thread script phase
  pub count : threads.count ≡ length (phase_at script phase).threads
  pub within : threads.first + threads.count ≤ length (threads_of script)

-- the tag that is cached, if one is, is the one that the tree of the world answers
abbrev pub IsCurrent : Option CachedTag → World → Type 0
IsCurrent cached w = IfSome cached (λ k. IsResolved w k.task k.cpu k.tag)
