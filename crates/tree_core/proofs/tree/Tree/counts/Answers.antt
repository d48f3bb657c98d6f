use Rattle.std.proofs.Common.{ℕ, List, sym, subst, ◌∙◌}
use Rattle.std.specs.List.{All}
use Rattle.tree_core.proofs.KeptTables.{Keeps-of}
use Rattle.tree_core.specs.Tables.{tables}
use Rattle.tree_law.proofs.laws.Counts.{needs-exist, NamesDomain-fits}
use Rattle.tree_law.specs.LawsCounts.{CanLook}
use Rattle.tree_law.specs.State.{tasks_of}
use Rattle.tree_core.proofs.tree.Tree.counts.Goals as goal

pub returns-clause-exist : goal.returns-clause-exist
returns-clause-exist c =
    let t = c.self.inside in
    let m = c.args.self.now.machine in let s = c.args.self.now.state in
    let keeps = Keeps-of (tables t.groups t.tasks t.cpus t.classes t.rmids t.regions) c.self.view_is c.self.invariant in
    subst (λ (xs : List (ℕ × ℕ)). All (CanLook m) xs) (sym (c.of.ensures ∙ c.needed-first.ensures.needs)) (needs-exist m s c.args.op.now keeps.sound (NamesDomain-fits m (tasks_of s) c.args.op.now c.requires.fits))
