use Rattle.std.proofs.Common.{◌++◌, ◌∙◌, ap, length, refl, sym}
use Rattle.schedule_law.proofs.QuietSteps.{quiet_step}
use Rattle.schedule_law.proofs.LivePhases.{end_apart, end_happens}
use Rattle.schedule_law.specs.LiveParts.{after}
use Rattle.schedule_law.specs.declared.part.Happening.TheVariants.{End}
use Rattle.shared_parts.specs.Parts.{parts_after}
use Rattle.schedule_law.proofs.phases.end.Goals as goal

pub step_with-requires-clause-one : goal.step_with-requires-clause-one
step_with-requires-clause-one g c = ap length c.requires.may.phase_is

pub step_with-requires-clause-apart : goal.step_with-requires-clause-apart
step_with-requires-clause-apart g c = end_apart g.N.NamedScript.script c.args.phase.now.parts c.args.worker.now.parts c.requires.may

pub step_with-requires-clause-may : goal.step_with-requires-clause-may
step_with-requires-clause-may g c = end_happens g.N.NamedScript.script c.args.phase.now.parts c.args.worker.now.parts c.requires.may

pub returns-clause-worker : goal.returns-clause-worker
returns-clause-worker g c = c.step_with.ensures.parts ∙ (ap (parts_after after End) c.requires.may.worker_is ∙ sym c.requires.may.worker_is)

pub step_with-requires-clause-quiet : goal.step_with-requires-clause-quiet
step_with-requires-clause-quiet g c = quiet_step (End) (λ hs. refl) (λ holder. refl) (c.args.phase.now.parts ++ c.args.worker.now.parts)
