-- Journals that have one order of all steps: some schedule of the machine makes them, so the play of the script by some order lists
-- makes them too.
use Rattle.std.specs.Prelude.{◌≡◌, ℕ, ◌<◌, List}
use Rattle.run_law.specs.Journals.{JournalsValue}
use Rattle.run_law.specs.Runs.{IsRun}
use Rattle.script_ops.specs.Values.{ScriptValue}
use Rattle.step_world.specs.Machine.{MachineValue}
use Rattle.step_world.specs.Schedules.{Event, IsOpening, IsOver, Plays}
use Rattle.step_world.specs.Play.{IsPlayBy}

-- (For proofs.) There is one order of all steps: these events happen, one after the other, until the last phase is over, and leave
-- the journals.
pub record IsScheduled (script : ScriptValue) (journals : JournalsValue) : Type 0 where
  pub events : List Event
  pub first : MachineValue
  pub last : MachineValue
  pub opening : IsOpening script first
  pub plays : Plays script events first last
  pub over : IsOver script last
  pub are : last.journals ≡ journals

-- a play by order lists is scheduled
abbrev pub EachPlayIsScheduled : Type 0
EachPlayIsScheduled = (script : ScriptValue) (orders : List (List ℕ)) (journals : JournalsValue) → IsPlayBy script orders journals → IsScheduled script journals

-- what is scheduled is a run
abbrev pub EachScheduleIsARun : Type 0
EachScheduleIsARun = (script : ScriptValue) (journals : JournalsValue) → 0 < script.machine.slices → IsScheduled script journals → IsRun script journals

-- what is scheduled can be played again by order lists
abbrev pub EachScheduleIsAPlay : Type 0
EachScheduleIsAPlay =
    (script : ScriptValue) (journals : JournalsValue) → 0 < script.machine.slices → IsScheduled script journals → (orders : List (List ℕ)) × IsPlayBy script orders journals
