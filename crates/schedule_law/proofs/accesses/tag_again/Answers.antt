use Rattle.std.proofs.Common.{◌++◌, ◌∙◌, ap, length, refl, sym}
use Rattle.schedule_law.proofs.QuietSteps.{quiet_step}
use Rattle.schedule_law.proofs.LiveAccesses.{tag_again_apart, tag_again_happens}
use Rattle.schedule_law.specs.LiveParts.{after}
use Rattle.schedule_law.specs.declared.part.Happening.TheVariants.{Again}
use Rattle.shared_parts.specs.Parts.{parts_after}
use Rattle.schedule_law.proofs.accesses.tag_again.Goals as goal

pub step_with-requires-clause-one : goal.step_with-requires-clause-one
step_with-requires-clause-one g c = ap length c.requires.may.slice_is

pub step_with-requires-clause-apart : goal.step_with-requires-clause-apart
step_with-requires-clause-apart g c = tag_again_apart g.N.NamedScript.script c.args.slice.now.parts c.args.worker.now.parts c.requires.may

pub step_with-requires-clause-may : goal.step_with-requires-clause-may
step_with-requires-clause-may g c = tag_again_happens g.N.NamedScript.script c.args.slice.now.parts c.args.worker.now.parts c.requires.may

pub returns-clause-slice : goal.returns-clause-slice
returns-clause-slice g c = c.step_with.ensures.other_parts ∙ (ap (parts_after after Again) c.requires.may.slice_is ∙ sym c.requires.may.slice_is)

pub step_with-requires-clause-quiet : goal.step_with-requires-clause-quiet
step_with-requires-clause-quiet g c = quiet_step (Again) (λ hs. refl) (λ holder. refl) (c.args.slice.now.parts ++ c.args.worker.now.parts)
