-- A script whose threads take turns, and where they stand in it.
-- (For functions and proofs: no promise of the program stands on it.)
use Rattle.std.specs.Prelude.{◌≡◌, ℕ, ◌+◌, ◌*◌, true, length}
use Rattle.atomic_table.specs.Seated.{TableId}
use Rattle.live_law.specs.DoneOps.{AreEnded}
use Rattle.live_run.specs.Names.{PassesValue, seen_by}
use Rattle.live_run.specs.Openings.{IsFirst}
use Rattle.live_run.specs.Sharing.{IsAtPhase}
use Rattle.schedule_law.specs.declared.part.Part.{Part}
use Rattle.script_ops.specs.Values.{ScriptValue, ops_of, phase_at, threads_of}
use Rattle.shared_parts.specs.Shares.{ShareValue}

-- One thread makes the first of two phases. Of the two of the second phase one makes a sweep between each two accesses of the other,
-- which makes a command at the end.
pub record IsInTurns (script : ScriptValue) (sweeps sweep : ℕ) : Type 0 where
  pub phases : length script.phases ≡ 2
  pub threads : length (threads_of script) ≡ 3
  pub first : length (phase_at script 0).threads ≡ 1
  pub others : length (phase_at script 1).threads ≡ 2
  pub second_ops : length (ops_of script 1) ≡ sweeps + 2
  pub third_ops : length (ops_of script 2) ≡ sweeps * sweep

-- ---- one thread

-- The thread is before its first op, and has seen that the threads of earlier phases have ended.
pub record IsReady (script : ScriptValue) (thread : ℕ) (p : PassesValue) : Type 0 where
  pub first_is : IsFirst thread p
  pub earlier : AreEnded script (seen_by p.seen) p.seen.thread

-- The thread has made its first n ops, and its phase has begun.
pub record HasMade (thread n : ℕ) (p : PassesValue) : Type 0 where
  pub thread_is : p.seen.thread ≡ thread
  pub next : p.next ≡ n
  pub begun : p.begun ≡ true

-- ---- three threads

-- They are before their first ops, and the first phase is to begin.
pub record AreAtFirst (script : ScriptValue) (table : TableId) (turn : ShareValue Part) (first second third : PassesValue) : Type 0 where
  pub turn_is : IsAtPhase script table 0 turn
  pub first_is : IsFirst 0 first
  pub second_is : IsFirst 1 second
  pub third_is : IsFirst 2 third

-- The second phase has begun. The first has made all its ops, and of the others each so many.
pub record HaveMade (script : ScriptValue) (table : TableId) (second_ops third_ops : ℕ) (turn : ShareValue Part) (first second third : PassesValue) : Type 0 where
  pub turn_is : IsAtPhase script table 1 turn
  pub first_made : HasMade 0 (length (ops_of script 0)) first
  pub second_made : HasMade 1 second_ops second
  pub third_made : HasMade 2 third_ops third
