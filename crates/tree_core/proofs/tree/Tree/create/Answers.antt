use Rattle.std.proofs.Common.{◌≡◌}
use Rattle.group_tree.specs.Opening as groups_at_first
use Rattle.machine.specs.Maps.{parameters_of}
use Rattle.tree_core.proofs.KeptTables.{Keeps-from_IsKept}
use Rattle.tree_core.proofs.Opening.{IsKept-opening, state_of-opening}
use Rattle.tree_core.proofs.tree.Tree.create.Goals as goal

pub invariant_of-result : goal.invariant_of-result
invariant_of-result c =
    let groups : c.in_ok-groups.groups ≡ groups_at_first.opening_groups (parameters_of c.args.m.now) = let e = c.in_ok-groups.ensures in cc in
    IsKept-opening c.args.m.now c.args.tasks.now c.in_ok-groups.groups c.in_ok-tasks.tasks c.create-3.result c.create-4.result c.create-5.result c.create-6.result c.requires.rising groups c.in_ok-tasks.ensures c.create-3.ensures c.create-4.ensures c.create-5.ensures c.create-6.ensures c.requires.few

pub returns-clause-sound : goal.returns-clause-sound
returns-clause-sound c =
    let groups : c.in_ok-groups.groups ≡ groups_at_first.opening_groups (parameters_of c.args.m.now) = let e = c.in_ok-groups.ensures in cc in
    (Keeps-from_IsKept (IsKept-opening c.args.m.now c.args.tasks.now c.in_ok-groups.groups c.in_ok-tasks.tasks c.create-3.result c.create-4.result c.create-5.result c.create-6.result c.requires.rising groups c.in_ok-tasks.ensures c.create-3.ensures c.create-4.ensures c.create-5.ensures c.create-6.ensures c.requires.few)).sound

pub returns-clause-state : goal.returns-clause-state
returns-clause-state c =
    let groups : c.in_ok-groups.groups ≡ groups_at_first.opening_groups (parameters_of c.args.m.now) = let e = c.in_ok-groups.ensures in cc in
    state_of-opening c.args.m.now c.args.tasks.now c.in_ok-groups.groups c.in_ok-tasks.tasks c.create-3.result c.create-4.result c.create-5.result c.create-6.result groups c.in_ok-tasks.ensures c.create-3.ensures c.create-5.ensures c.create-6.ensures
