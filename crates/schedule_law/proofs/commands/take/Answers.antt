use Rattle.std.proofs.Common.{◌+◌, ◌*◌, ◌∙◌, ap, sym, subst}
use Rattle.schedule_law.specs.LiveParts.{after, reached, shown}
use Rattle.schedule_law.specs.declared.part.Happening.TheVariants.{Take}
use Rattle.schedule_law.proofs.LiveCommands.{take_happens, take_shows}
use Rattle.shared_parts.specs.Parts.{MayHappen, Shows, parts_after}
use Rattle.schedule_law.proofs.commands.take.Goals as goal

pub step_shown-requires-clause-before : goal.step_shown-requires-clause-before
step_shown-requires-clause-before g c =
    subst (Shows shown (2 * c.args.epoch)) (sym c.absorb.ensures.parts) (take_shows g.N.NamedScript.script c.args.tree.now.parts c.args.worker.now.parts c.args.thread c.args.epoch c.requires.may).0

pub step_shown-requires-clause-after : goal.step_shown-requires-clause-after
step_shown-requires-clause-after g c =
    subst (λ n. Shows shown n (parts_after after (Take c.args.thread) c.absorb.new.self.parts)) (sym c.held.ensures)
    (subst (λ l. Shows shown (2 * c.args.epoch + 1) (parts_after after (Take c.args.thread) l)) (sym c.absorb.ensures.parts)
    (take_shows g.N.NamedScript.script c.args.tree.now.parts c.args.worker.now.parts c.args.thread c.args.epoch c.requires.may).1)

pub step_shown-requires-clause-may : goal.step_shown-requires-clause-may
step_shown-requires-clause-may g c =
    subst (λ l. MayHappen (reached g.N.NamedScript.script) after (Take c.args.thread) l) (sym c.absorb.ensures.parts)
    (take_happens g.N.NamedScript.script c.args.tree.now.parts c.args.worker.now.parts c.args.thread c.args.epoch c.requires.may)

pub returns-clause-worker : goal.returns-clause-worker
returns-clause-worker g c = c.step_shown.ensures.parts ∙ ap (parts_after after (Take c.args.thread)) c.absorb.ensures.parts
