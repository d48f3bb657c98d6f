use Rattle.step_world.proofs.laws.Plays.{play_is_a_run}
use Rattle.step_world.proofs.laws.Schedules.{each_end, each_moment}
use Rattle.step_world.proofs.theorems.each_schedule_is_a_run.Goals as goal

pub returns-clause-so_far : goal.returns-clause-so_far
returns-clause-so_far c = each_moment

pub returns-clause-run : goal.returns-clause-run
returns-clause-run c = each_end

pub returns-clause-play : goal.returns-clause-play
returns-clause-play c = λ script journals. play_is_a_run script _ journals
