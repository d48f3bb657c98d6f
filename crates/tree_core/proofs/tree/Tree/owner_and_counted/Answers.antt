use Rattle.std.proofs.Common.{◌≡◌, List, Some, IsSome, sym, subst, ap, ◌∙◌}
use Rattle.task_binding.specs.Bindings.{binding_of}
use Rattle.task_binding.specs.declared.binding.Binding.{Binding}
use Rattle.tree_core.proofs.KeptTables.{Keeps-of}
use Rattle.tree_core.proofs.Owners.{IsSome-binding_of, counted_at-bound, owner_of-bound}
use Rattle.tree_core.specs.Tables.{tables}
use Rattle.tree_core.proofs.tree.Tree.owner_and_counted.Goals as goal

pub groups_of-requires : goal.groups_of-requires
groups_of-requires c =
    let t = c.self.inside in
    let keeps = Keeps-of (tables t.groups t.tasks t.cpus t.classes t.rmids t.regions) c.self.view_is c.self.invariant in
    subst (λ (tasks : List Binding). IsSome (binding_of c.args.task tasks)) (sym keeps.stands.tasks) (IsSome-binding_of c.args.self.now.state c.args.task c.requires.task)

pub returns : goal.returns
returns c =
    let t = c.self.inside in let s = c.args.self.now.state in
    let keeps = Keeps-of (tables t.groups t.tasks t.cpus t.classes t.rmids t.regions) c.self.view_is c.self.invariant in
    let b : Binding = record { task = c.args.task; control = c.groups_of.result.0; monitor = c.groups_of.result.1 } in
    let bound : binding_of c.args.task s.tasks ≡ Some b = ap (binding_of c.args.task) (sym keeps.stands.tasks) ∙ c.groups_of.ensures in
    record { owner = c.owner.ensures ∙ owner_of-bound s c.args.task c.args.cpu b bound; counted = c.counted.ensures ∙ counted_at-bound s c.args.task c.args.cpu b bound }
