use Rattle.std.proofs.Common.{◌++◌, ap, length, refl}
use Rattle.schedule_law.specs.declared.part.Happening.TheVariants.{Touch}
use Rattle.schedule_law.proofs.QuietSteps.{quiet_step}
use Rattle.schedule_law.proofs.LiveAccesses.{touch_apart, touch_happens}
use Rattle.schedule_law.proofs.accesses.touch.Goals as goal

pub step_with-requires-clause-one : goal.step_with-requires-clause-one
step_with-requires-clause-one g c = ap length c.requires.may.place.slice_is

pub step_with-requires-clause-apart : goal.step_with-requires-clause-apart
step_with-requires-clause-apart g c = touch_apart g.N.NamedScript.script c.args.slice.now.parts c.args.worker.now.parts c.args.entry c.requires.may

pub step_with-requires-clause-may : goal.step_with-requires-clause-may
step_with-requires-clause-may g c = touch_happens g.N.NamedScript.script c.args.slice.now.parts c.args.worker.now.parts c.args.entry c.requires.may

pub step_with-requires-clause-quiet : goal.step_with-requires-clause-quiet
step_with-requires-clause-quiet g c = quiet_step (Touch c.args.entry) (λ hs. refl) (λ holder. refl) (c.args.slice.now.parts ++ c.args.worker.now.parts)
