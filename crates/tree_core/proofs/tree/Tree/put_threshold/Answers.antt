use Rattle.std.proofs.Common.{◌≤◌, sym, subst}
use Rattle.hw_ids.specs.MonitoringIds.{MonitoringIds}
use Rattle.machine.specs.Maps.{cache_bytes, parameters_of}
use Rattle.rc_base.specs.declared.replies.Reply.TheVariants as replies
use Rattle.tree_core.proofs.KeptTables.{IsKept-from_Keeps, Keeps-from_IsKept}
use Rattle.tree_core.proofs.WrittenThresholds.{Keeps-threshold}
use Rattle.tree_core.specs.Kept.{IsKept}
use Rattle.tree_core.specs.Tables.{state_of, tables}
use Rattle.tree_core.specs.Values.{TreeValue}
use Rattle.tree_core.proofs.tree.Tree.put_threshold.Goals as goal

pub invariant_of-self : goal.invariant_of-self
invariant_of-self c =
    let t = c.self.inside in
    let m = parameters_of t.machine in
    let few : c.args.bytes ≤ cache_bytes m = subst (λ (v : TreeValue). c.args.bytes ≤ cache_bytes v.machine) (sym c.self.view_is) c.requires.few in
    subst (λ (r : MonitoringIds). IsKept m (tables t.groups t.tasks t.cpus t.classes r t.regions) (state_of m (tables t.groups t.tasks t.cpus t.classes r t.regions) replies.Ok t.next_gid) t.epoch) (sym c.set_threshold.ensures)
    (IsKept-from_Keeps (Keeps-threshold c.args.bytes replies.Ok (Keeps-from_IsKept c.self.invariant) few))
