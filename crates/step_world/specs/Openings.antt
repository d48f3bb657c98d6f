-- The slices, the threads and their lists before the first step.
-- (For functions and proofs: no promise of the program stands on it.)
use Rattle.std.specs.Prelude.{◌≡◌, ℕ, ◌<◌, List, length, slice_index_or, vec_capacity}
use Rattle.machine.specs.Slices.{slice_count}
use Rattle.rc_base.specs.Buffers.{Looks}
use Rattle.run_law.specs.Quotas.{command_count, room_of}
use Rattle.script_ops.specs.Values.{ScriptValue, ops_of, threads_of}
use Rattle.run_law.specs.LookLists.{AreReady, rooms_of}
use Rattle.step_world.specs.Machine.{opening_thread}
use Rattle.step_world.specs.Slices.{IsFresh, SliceValue}
use Rattle.step_world.specs.declared.thread_state.Thread.{Thread}
use Rattle.step_world.specs.declared.world.World.{World}

-- these are the first n slices, empty, each with its room
pub record AreFresh (script : ScriptValue) (n : ℕ) (slices : List SliceValue) : Type 0 where
  pub count : length slices ≡ n
  pub each : (i : ℕ) (d : SliceValue) → i < n → IsFresh script.machine i (slice_index_or slices i d)
  pub rooms : (i : ℕ) (d : SliceValue) → i < n → (slice_index_or slices i d).room ≡ room_of script i

-- these are n threads, each before its first op
pub record AreFirst (n : ℕ) (threads : List Thread) : Type 0 where
  pub count : length threads ≡ n
  pub each : (t : ℕ) → slice_index_or threads t opening_thread ≡ opening_thread

-- the first n threads have a list for each of their commands
pub record AreListed (script : ScriptValue) (n : ℕ) (lists : List (List Looks)) : Type 0 where
  pub count : length lists ≡ n
  pub each : (t : ℕ) (d : List Looks) → t < n → AreReady (rooms_of script.machine (ops_of script t)) (slice_index_or lists t d)

-- A world has just the rooms that a script needs: those of its journals, one for the journal of each slice where they are closed,
-- and a list for the counts of each command.
pub record HasRooms (script : ScriptValue) (w : World) : Type 0 where
  pub commands : vec_capacity w.commands ≡ command_count script
  pub count : length w.slices.items ≡ slice_count script.machine
  pub slices : (i : ℕ) (d : SliceValue) → i < slice_count script.machine → (slice_index_or w.slices.items i d).room ≡ room_of script i
  pub closing : vec_capacity w.closing ≡ slice_count script.machine
  pub lists : AreListed script (length (threads_of script)) w.lists.items
