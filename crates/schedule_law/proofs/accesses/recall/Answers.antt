use Rattle.std.proofs.Common.{refl}
use Rattle.schedule_law.proofs.LiveAccesses.{recall_happens}
use Rattle.schedule_law.proofs.QuietSteps.{quiet_step}
use Rattle.schedule_law.proofs.accesses.recall.Goals as goal
use Rattle.schedule_law.specs.declared.part.Happening.TheVariants.{Label}

pub step_where-requires-clause-quiet : goal.step_where-requires-clause-quiet
step_where-requires-clause-quiet g c = quiet_step (Label c.args.given) (λ hs. refl) (λ holder. refl) c.args.worker.now.parts

pub step_where-requires-clause-may : goal.step_where-requires-clause-may
step_where-requires-clause-may g c = recall_happens g.N.NamedScript.script c.args.worker.now.parts c.args.given c.requires.may
