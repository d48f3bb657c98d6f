use Rattle.tree_core.proofs.Assignments.{All-domains_of}
use Rattle.tree_core.proofs.tree.Tree.take_masks.Goals as goal

pub against_masks-requires-clause-exist : goal.against_masks-requires-clause-exist
against_masks-requires-clause-exist c = All-domains_of c.args.self.now.machine.domains c.args.all.now c.requires.lawful.exist
