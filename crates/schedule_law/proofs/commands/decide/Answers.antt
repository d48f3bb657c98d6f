use Rattle.std.proofs.Common.{sym, subst}
use Rattle.schedule_law.specs.LiveParts.{after, shown}
use Rattle.schedule_law.specs.declared.part.Happening.TheVariants.{Decide}
use Rattle.schedule_law.proofs.LiveCommands.{decide_happens, decide_shows}
use Rattle.schedule_law.proofs.commands.decide.Goals as goal
use Rattle.shared_parts.specs.Parts.{Shows, parts_after}

pub step_shown-requires-clause-before : goal.step_shown-requires-clause-before
step_shown-requires-clause-before g c =
    subst (λ n. Shows shown n c.args.worker.now.parts) (sym c.held.ensures)
    (decide_shows g.N.NamedScript.script c.args.worker.now.parts c.args.command c.args.last c.args.made c.args.epoch c.requires.may).0

pub step_shown-requires-clause-after : goal.step_shown-requires-clause-after
step_shown-requires-clause-after g c =
    subst (λ n. Shows shown n (parts_after after (Decide c.args.command c.args.last c.args.made) c.args.worker.now.parts)) (sym c.decided.ensures)
    (decide_shows g.N.NamedScript.script c.args.worker.now.parts c.args.command c.args.last c.args.made c.args.epoch c.requires.may).1

pub step_shown-requires-clause-may : goal.step_shown-requires-clause-may
step_shown-requires-clause-may g c = decide_happens g.N.NamedScript.script c.args.worker.now.parts c.args.command c.args.last c.args.made c.args.epoch c.requires.may
