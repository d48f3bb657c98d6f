use Rattle.std.proofs.Common.{Bool, None, ap, length, refl, sym, subst, ◌++◌, ◌*◌}
use Rattle.std.specs.Prelude.{if◌then◌else◌}
use Rattle.schedule_law.specs.LiveParts.{after, shown}
use Rattle.schedule_law.specs.LiveSteps.{MayFollow}
use Rattle.schedule_law.specs.declared.part.Happening.TheVariants.{Follow}
use Rattle.schedule_law.proofs.LiveCommands.{follow_apart, follow_happens, follow_shows}
use Rattle.schedule_law.proofs.QuietSteps.{quiet_step}
use Rattle.schedule_law.proofs.commands.follow.Goals as goal
use Rattle.shared_parts.specs.Parts.{Shows, parts_after}

pub step_with_shown-requires-clause-one : goal.step_with_shown-requires-clause-one
step_with_shown-requires-clause-one g c = ap length c.requires.may.place.slice_is

pub step_with_shown-requires-clause-apart : goal.step_with_shown-requires-clause-apart
step_with_shown-requires-clause-apart g c = follow_apart g.N.NamedScript.script c.args.slice.now.parts c.args.worker.now.parts c.args.entry c.args.last c.requires.may

pub step_with_shown-requires-clause-before : goal.step_with_shown-requires-clause-before
step_with_shown-requires-clause-before g c =
    subst (λ n. Shows shown n (c.args.slice.now.parts ++ c.args.worker.now.parts)) (sym c.held.ensures) (follow_shows g.N.NamedScript.script c.args.slice.now.parts c.args.worker.now.parts c.args.entry (subst (MayFollow g.N.NamedScript.script c.args.slice.now.parts c.args.worker.now.parts c.args.entry) c.if-last.true c.requires.may)).0

pub step_with_shown-requires-clause-after : goal.step_with_shown-requires-clause-after
step_with_shown-requires-clause-after g c =
    subst (λ b. Shows shown (2 * c.args.entry.epoch) (parts_after after (Follow c.args.entry b) (c.args.slice.now.parts ++ c.args.worker.now.parts))) (sym c.if-last.true)
    (follow_shows g.N.NamedScript.script c.args.slice.now.parts c.args.worker.now.parts c.args.entry (subst (MayFollow g.N.NamedScript.script c.args.slice.now.parts c.args.worker.now.parts c.args.entry) c.if-last.true c.requires.may)).1

pub step_with_shown-requires-clause-may : goal.step_with_shown-requires-clause-may
step_with_shown-requires-clause-may g c = follow_happens g.N.NamedScript.script c.args.slice.now.parts c.args.worker.now.parts c.args.entry c.args.last c.requires.may

pub step_with-requires-clause-one : goal.step_with-requires-clause-one
step_with-requires-clause-one g c = ap length c.requires.may.place.slice_is

pub step_with-requires-clause-apart : goal.step_with-requires-clause-apart
step_with-requires-clause-apart g c = follow_apart g.N.NamedScript.script c.args.slice.now.parts c.args.worker.now.parts c.args.entry c.args.last c.requires.may

pub step_with-requires-clause-quiet : goal.step_with-requires-clause-quiet
step_with-requires-clause-quiet g c =
    quiet_step (Follow c.args.entry c.args.last) (λ hs. refl) (λ holder. ap (λ (b : Bool). if b then None else holder) c.if-last.false) (c.args.slice.now.parts ++ c.args.worker.now.parts)

pub step_with-requires-clause-may : goal.step_with-requires-clause-may
step_with-requires-clause-may g c = follow_happens g.N.NamedScript.script c.args.slice.now.parts c.args.worker.now.parts c.args.entry c.args.last c.requires.may
