use Rattle.std.proofs.Common.{refl}
use Rattle.schedule_law.specs.declared.part.Happening.TheVariants.{Pass}
use Rattle.schedule_law.proofs.QuietSteps.{quiet_step}
use Rattle.schedule_law.proofs.LivePhases.{pass_happens}
use Rattle.schedule_law.proofs.phases.pass.Goals as goal

pub step-requires-clause-may : goal.step-requires-clause-may
step-requires-clause-may g c = pass_happens g.N.NamedScript.script c.args.phase.now.parts c.requires.may

pub step-requires-clause-quiet : goal.step-requires-clause-quiet
step-requires-clause-quiet g c = quiet_step (Pass) (λ hs. refl) (λ holder. refl) (c.args.phase.now.parts)
