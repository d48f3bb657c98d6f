-- The law of schedules: whatever steps the threads take, and in whatever order, the journals are those of a run.
-- (For functions and proofs: no promise of the program stands on it.)
use Rattle.std.specs.Prelude.{◌≡◌, ℕ, ◌<◌, ◌≤◌, List, length}
use Rattle.machine.specs.Slices.{slice_count}
use Rattle.run_law.specs.Journals.{JournalsValue, slice_at}
use Rattle.run_law.specs.Quotas.{room_of}
use Rattle.run_law.specs.Runs.{IsRun}
use Rattle.script_ops.specs.Values.{IsLawful, ScriptValue}
use Rattle.step_world.specs.Machine.{MachineValue}
use Rattle.step_world.specs.Schedules.{IsOpening, IsOver, Event, Plays}
use Rattle.step_world.specs.Moments.{IsRunSoFar}
use Rattle.step_world.specs.Play.{IsPlay}

-- at every moment of every schedule the journals are those of a run so far
abbrev pub EachMomentIsSoFar : Type 0
EachMomentIsSoFar =
    (script : ScriptValue) (events : List Event) (first last : MachineValue) → 0 < script.machine.slices → IsOpening script first → Plays script events first last
    → IsRunSoFar script last

-- and when the last phase is over, they are a run
abbrev pub EachEndIsARun : Type 0
EachEndIsARun =
    (script : ScriptValue) (events : List Event) (first last : MachineValue) → 0 < script.machine.slices → IsOpening script first → Plays script events first last → IsOver script last
    → IsRun script last.journals

-- so are those of the play of a script
abbrev pub EachPlayIsARun : Type 0
EachPlayIsARun = (script : ScriptValue) (journals : JournalsValue) → 0 < script.machine.slices → IsPlay script journals → IsRun script journals

-- at every moment no slice has more entries than its room, which is the sum of all ops' quotas
abbrev pub EachMomentHasRoom : Type 0
EachMomentHasRoom =
    (script : ScriptValue) (events : List Event) (first last : MachineValue) → IsLawful script → IsOpening script first → Plays script events first last
    → (i : ℕ) → i < slice_count script.machine → length (slice_at last.journals i) ≤ room_of script i

-- two plays of a script have the same journals
abbrev pub PlaysAreOne : Type 0
PlaysAreOne = (script : ScriptValue) (one other : JournalsValue) → IsLawful script → IsPlay script one → IsPlay script other → one ≡ other
