use Rattle.std.proofs.Common.{ℕ, List, ◌++◌, [], length, ap, ◌∙◌, arith, length-append}
use Rattle.std.specs.Option.{option_map_or}
use Rattle.group_tree.specs.Records.{blank}
use Rattle.machine.specs.Maps.{parameters_of}
use Rattle.tree_core.proofs.KeptTables.{Keeps-from_IsKept}
use Rattle.tree_core.proofs.RmidLists.{length-monitor_groups, length-rmids_with}
use Rattle.tree_core.specs.RmidLists.{monitor_rmids}
use Rattle.tree_core.specs.Tables.{state_of, tables}
use Rattle.tree_core.specs.Values.{TreeValue}
use Rattle.tree_law.specs.Existing.{group_of}
use Rattle.tree_law.specs.Freeing.{monitors_of, rmids_of}
use Rattle.tree_core.proofs.tree.Tree.monitor_count.Goals as goal

pub push_monitors-requires : goal.push_monitors-requires
push_monitors-requires c =
    let t = c.self.inside in
    let m = parameters_of t.machine in
    let s = state_of m (tables t.groups t.tasks t.cpus t.classes t.rmids t.regions) t.status t.next_gid in
    let few = length-rmids_with (Keeps-from_IsKept c.self.invariant) c.args.gid blank in
    let both = length-append (option_map_or rmids_of (group_of s c.args.gid) []) (monitor_rmids c.args.gid t.groups.groups) in
    let most = t.machine.in_range.rmid_limit in
    let none = ap (λ (xs : List ℕ). length (xs ++ monitor_rmids c.args.gid t.groups.groups)) c.new-rmids.ensures in
    record { room = omega (arith, few, both, most, none) }

pub returns : goal.returns
returns c =
    let t = c.self.inside in
    let keeps = Keeps-from_IsKept c.self.invariant in
    c.len.ensures.value ∙ ap (λ (xs : List ℕ). length xs) (c.push_monitors.ensures ∙ ap (λ (xs : List ℕ). xs ++ monitor_rmids c.args.gid t.groups.groups) c.new-rmids.ensures)
    ∙ length-monitor_groups c.args.gid t.groups.groups t.groups.groups keeps.sound.numbered.ids ∙ ap (λ (v : TreeValue). length (monitors_of v.state c.args.gid)) c.self.view_is
