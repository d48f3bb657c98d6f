use Rattle.std.proofs.Common.{◌++◌, ◌∙◌, ap, append-nil}
use Rattle.schedule_law.proofs.LiveCommands.{release_apart}
use Rattle.shared_parts.specs.Parts.{first_of}
use Rattle.schedule_law.proofs.commands.release.Goals as goal

pub hand_first-requires-clause-apart : goal.hand_first-requires-clause-apart
hand_first-requires-clause-apart g c = release_apart c.args.tree.now.parts c.args.worker.now.parts c.requires.may

pub returns-clause-tree : goal.returns-clause-tree
returns-clause-tree g c =
    let own = first_of c.args.worker.now.parts in
    c.hand_first.ensures.other_parts ∙ (ap (λ l. own ++ l) c.requires.may.tree_is ∙ append-nil own)
