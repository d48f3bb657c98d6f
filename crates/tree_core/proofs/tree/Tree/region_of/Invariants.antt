use Rattle.std.proofs.Common.{◌≡◌, ◌<◌, ℕ, None}
use Rattle.tree_core.specs.Touched.{region_at}
use Rattle.tree_core.proofs.tree.Tree.region_of.Given as goal

abbrev pub invariant-loop-domain : goal.invariant-loop-domain
invariant-loop-domain l = (domain : ℕ) → domain < l.domain → region_at l.self.state l.gid domain ≡ None
