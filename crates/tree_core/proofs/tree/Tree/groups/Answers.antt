use Rattle.std.proofs.Common.{ap, ◌∙◌}
use Rattle.tree_core.proofs.KeptTables.{Keeps-from_IsKept}
use Rattle.tree_core.specs.Values.{TreeValue}
use Rattle.tree_core.proofs.tree.Tree.groups.Goals as goal

pub returns-clause-shareable : goal.returns-clause-shareable
returns-clause-shareable c = (Keeps-from_IsKept c.self.invariant).stands.shareable ∙ ap (λ (t : TreeValue). t.machine.shareable) c.self.view_is
