use Rattle.std.proofs.Common.{refl}
use Rattle.tree_core.proofs.Creation.{Keeps-same_ids, is_some-free_class}
use Rattle.tree_core.proofs.KeptTables.{IsKept-from_Keeps, Keeps-from_IsKept, Keeps-of, contains-default_class}
use Rattle.tree_core.proofs.Returns.{RmidsStay-same}
use Rattle.tree_core.specs.Tables.{tables}
use Rattle.tree_core.proofs.tree.Tree.has_class.Goals as goal

pub has_class-requires : goal.has_class-requires
has_class-requires c = record { default_class = contains-default_class (Keeps-from_IsKept c.self.invariant) }

pub invariant_of-self : goal.invariant_of-self
invariant_of-self c =
    let t = c.self.inside in
    IsKept-from_Keeps (Keeps-same_ids (Keeps-from_IsKept c.self.invariant) c.has_class.new.classes t.rmids c.has_class.ensures.stay (RmidsStay-same t.rmids t.rmids refl))

pub returns-clause-free : goal.returns-clause-free
returns-clause-free c =
    let t = c.self.inside in
    is_some-free_class (Keeps-of (tables t.groups t.tasks t.cpus t.classes t.rmids t.regions) c.self.view_is c.self.invariant) c.has_class.result c.has_class.ensures.free
