use Rattle.std.proofs.Common.{◌++◌, ◌∙◌, ap, length, refl, sym}
use Rattle.schedule_law.proofs.QuietSteps.{quiet_step}
use Rattle.schedule_law.proofs.LivePhases.{begin_apart, begin_happens}
use Rattle.schedule_law.specs.LiveParts.{after}
use Rattle.schedule_law.specs.declared.part.Happening.TheVariants.{Begin}
use Rattle.shared_parts.specs.Parts.{parts_after}
use Rattle.schedule_law.proofs.phases.begin.Goals as goal

pub step_with-requires-clause-one : goal.step_with-requires-clause-one
step_with-requires-clause-one g c = ap length c.requires.may.phase_is

pub step_with-requires-clause-apart : goal.step_with-requires-clause-apart
step_with-requires-clause-apart g c = begin_apart g.N.NamedScript.script c.args.phase.now.parts c.args.worker.now.parts c.requires.may

pub step_with-requires-clause-may : goal.step_with-requires-clause-may
step_with-requires-clause-may g c = begin_happens g.N.NamedScript.script c.args.phase.now.parts c.args.worker.now.parts c.requires.may

pub returns-clause-phase : goal.returns-clause-phase
returns-clause-phase g c = c.step_with.ensures.other_parts ∙ (ap (parts_after after Begin) c.requires.may.phase_is ∙ sym c.requires.may.phase_is)

pub step_with-requires-clause-quiet : goal.step_with-requires-clause-quiet
step_with-requires-clause-quiet g c = quiet_step (Begin) (λ hs. refl) (λ holder. refl) (c.args.phase.now.parts ++ c.args.worker.now.parts)
