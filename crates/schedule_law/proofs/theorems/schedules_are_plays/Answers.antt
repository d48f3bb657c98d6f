use Rattle.schedule_law.proofs.laws.OrderedPlays.{schedules_are_plays}
use Rattle.schedule_law.proofs.ScheduledPlays.{plays_are_scheduled, schedules_are_runs}
use Rattle.schedule_law.proofs.theorems.schedules_are_plays.Goals as goal

pub returns-clause-play : goal.returns-clause-play
returns-clause-play c = plays_are_scheduled

pub returns-clause-run : goal.returns-clause-run
returns-clause-run c = schedules_are_runs

pub returns-clause-again : goal.returns-clause-again
returns-clause-again c = schedules_are_plays
