use Rattle.std.proofs.Common.{arith, ap, length}
use Rattle.cpu_binding.specs.declared.groups.CpuGroups.{CpuGroups}
use Rattle.tree_core.proofs.KeptTables.{Keeps-of}
use Rattle.tree_core.specs.Tables.{tables}
use Rattle.tree_core.proofs.tree.Tree.counted.Goals as goal

pub mon_of-requires : goal.mon_of-requires
mon_of-requires c =
    let t = c.self.inside in
    let keeps = Keeps-of (tables t.groups t.tasks t.cpus t.classes t.rmids t.regions) c.self.view_is c.self.invariant in
    omega (arith, c.requires, keeps.sound.cpus.count, ap (length {A = CpuGroups}) keeps.stands.cpus)
