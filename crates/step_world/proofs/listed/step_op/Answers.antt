use Rattle.step_world.proofs.GivenAnswers.{answers-steps}
use Rattle.step_world.proofs.listed.step_op.Goals as goal
use Rattle.step_world.specs.Worlds.{machine_of}

pub returns-in_default-clause-steps : goal.returns-in_default-clause-steps
returns-in_default-clause-steps c = answers-steps c.args.script.now c.args.t (machine_of c.args.world.now) (machine_of c.act.new.self) c.act.result c.act.ensures.answers
