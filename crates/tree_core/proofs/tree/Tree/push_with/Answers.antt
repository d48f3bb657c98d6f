use Rattle.std.proofs.Common.{◌≡◌, ◌++◌, ℕ, List, [], length, sym, ap, ◌∙◌, arith}
use Rattle.group_tree.specs.Records.{blank}
use Rattle.machine.specs.Maps.{parameters_of}
use Rattle.tree_core.proofs.KeptTables.{Keeps-from_IsKept}
use Rattle.tree_core.proofs.RmidLists.{length-rmids_with}
use Rattle.tree_core.specs.RmidLists.{monitor_rmids}
use Rattle.tree_core.specs.Tables.{state_of, tables}
use Rattle.tree_core.specs.Values.{TreeValue}
use Rattle.tree_law.specs.Freeing.{rmids_of, rmids_with}
use Rattle.tree_law.specs.Existing.{group_of}
use Rattle.std.specs.Option.{option_map_or}
use Rattle.tree_core.proofs.tree.Tree.push_with.Goals as goal

pub push_monitors-requires : goal.push_monitors-requires
push_monitors-requires c =
    let t = c.self.inside in
    let m = parameters_of t.machine in
    let s = state_of m (tables t.groups t.tasks t.cpus t.classes t.rmids t.regions) t.status t.next_gid in
    let few = length-rmids_with (Keeps-from_IsKept c.self.invariant) c.args.gid blank in
    let most = t.machine.in_range.rmid_limit in
    let all : c.push_own.new.rmids.items ++ monitor_rmids c.args.gid t.groups.groups ≡ rmids_with s c.args.gid =
    ap (λ (xs : List ℕ). xs ++ monitor_rmids c.args.gid t.groups.groups) (c.push_own.ensures ∙ ap (λ (v : TreeValue). option_map_or rmids_of (group_of v.state c.args.gid) []) (sym c.self.view_is)) in
    record { room = omega (arith, ap (λ (xs : List ℕ). length xs) all, few, most) }
