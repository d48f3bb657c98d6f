use Rattle.tree_law.proofs.laws.Counts.{needs-exist}
use Rattle.tree_law.proofs.laws.DistinctCounts.{needs-distinct}
use Rattle.tree_law.proofs.theorems.needs_are_lawful.Goals as goal

pub returns : goal.returns
returns c = record { exist = needs-exist; differ = needs-distinct }
