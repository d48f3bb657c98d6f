use Rattle.tree_core.proofs.KeptTables.{Keeps-of}
use Rattle.tree_core.proofs.Uses.{SameUse-kept}
use Rattle.tree_core.specs.Tables.{tables}
use Rattle.tree_core.proofs.tree.Tree.used.Goals as goal

pub returns-clause-same : goal.returns-clause-same
returns-clause-same c =
    let t = c.self.inside in
    let keeps = Keeps-of (tables t.groups t.tasks t.cpus t.classes t.rmids t.regions) c.self.view_is c.self.invariant in
    SameUse-kept keeps c.args.but c.args.domain c.region_mask.result c.others.result c.others.ensures c.region_mask.ensures
