use Rattle.std.proofs.Common.{◌<◌, ℕ, List, Result, Ok, Err}
use Rattle.std.specs.Prelude.{IfOk}
use Rattle.live_run.proofs.whole_run.play.Goals as goal
use Rattle.run_law.specs.Journals.{JournalsValue}
use Rattle.schedule_law.proofs.laws.OrderedPlays.{schedules_are_plays}
use Rattle.schedule_law.specs.Schedules.{IsScheduled}
use Rattle.step_world.specs.Play.{IsPlayBy}
use Rattle.script_ops.specs.Values.{ScriptValue}

-- what is scheduled can be played again
played : {E : Type 0} (script : ScriptValue) (r : Result JournalsValue E) → 0 < script.machine.slices → IfOk r (IsScheduled script) → IfOk r (λ j. (orders : List (List ℕ)) × IsPlayBy script orders j)
played script (Ok j) some scheduled = schedules_are_plays script j some scheduled
played script (Err e) some scheduled = tt

pub returns-clause-played : goal.returns-clause-played
returns-clause-played g c = played c.args.script.now c.play_shared.result c.threads-threads.ensures.lawful.in_range.some_slice c.play_shared.ensures.scheduled
