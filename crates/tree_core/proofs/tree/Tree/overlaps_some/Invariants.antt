use Rattle.std.proofs.Common.{◌≡◌, ◌<◌, ℕ, false}
use Rattle.tree_law.specs.commands.Mode.{overlaps_some}
use Rattle.tree_core.proofs.tree.Tree.overlaps_some.Given as goal

abbrev pub invariant-loop-domain : goal.invariant-loop-domain
invariant-loop-domain l = (domain : ℕ) → domain < l.domain → overlaps_some l.self.machine l.self.state l.group domain ≡ false
