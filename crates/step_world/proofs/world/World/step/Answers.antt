use Rattle.step_world.specs.Worlds.{machine_of}
use Rattle.step_world.proofs.GivenAnswers.{blocked-where, ended-where, answers-steps}
use Rattle.step_world.proofs.world.World.step.Goals as goal

pub returns-in-Some : goal.returns-in-Some
returns-in-Some c =
    let script = c.args.script.now in
    let old = machine_of c.args.self.now in
    let new = machine_of c.act.new.self in
    let told = c.act.ensures in
    record {
      world = told.world;
      steps = answers-steps script c.args.thread old new c.act.result told.answers;
      answers = told.answers;
      ended = ended-where script c.args.thread old new c.act.result told.answers;
      blocked = blocked-where script c.args.thread old new c.act.result told.answers;
    }
