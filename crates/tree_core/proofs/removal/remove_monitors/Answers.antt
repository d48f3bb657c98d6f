use Rattle.std.proofs.Common.{◌≡◌, ◌≢◌, ◌+◌, ◌-◌, ◌<◌, ℕ, true, List, length, sym, subst, ap, ◌∙◌, arith}
use Rattle.std.specs.List.{All}
use Rattle.group_tree.specs.Records.{is_monitor_of}
use Rattle.group_tree.specs.declared.group.Group.{Group}
use Rattle.tree_core.proofs.LeavingMonitors.{All-off_from, length-off_from, off_from, without_if_monitor-off_from}
use Rattle.tree_core.specs.Removals.{without_if_monitor}
use Rattle.tree_core.proofs.removal.remove_monitors.Goals as goal

pub remove_if_monitor-requires-clause-within : goal.remove_if_monitor-requires-clause-within
remove_if_monitor-requires-clause-within c =
    let groups = c.args.groups.now.groups in
    let i = c.len-count.result - 1 - c.loop-k.k in
    let within : i < length groups = omega (arith, c.loop-k-test.true, c.len-count.ensures.count) in
    let place : c.len-count.result - c.loop-k.k ≡ i + 1 = omega (arith, c.loop-k-test.true) in
    subst (λ (gs : List Group). i < length gs) (sym (c.loop-k.invariant.groups ∙ ap (λ (j : ℕ). off_from c.args.control j groups) place)) (length-off_from c.args.control groups c.len-count.ensures.tree.gids_differ i within)

pub remove_if_monitor-requires-clause-default : goal.remove_if_monitor-requires-clause-default
remove_if_monitor-requires-clause-default c =
    subst (λ (gs : List Group). All (λ (g : Group). is_monitor_of c.args.control g.kind ≡ true → g.gid.0 ≢ 0) gs) (sym c.loop-k.invariant.groups)
    (All-off_from (λ (g : Group). is_monitor_of c.args.control g.kind ≡ true → g.gid.0 ≢ 0) c.args.control (c.len-count.result - c.loop-k.k) c.args.groups.now.groups c.requires.default)

pub loop-k-preserved : goal.loop-k-preserved
loop-k-preserved c =
    let groups = c.args.groups.now.groups in
    let i = c.len-count.result - 1 - c.loop-k.k in
    let within : i < length groups = omega (arith, c.loop-k-test.true, c.len-count.ensures.count) in
    let place : c.len-count.result - c.loop-k.k ≡ i + 1 = omega (arith, c.loop-k-test.true) in
    let next : c.len-count.result - (c.loop-k.k + 1) ≡ i = omega (arith, c.loop-k-test.true) in
    record {
      groups = c.remove_if_monitor.ensures.groups ∙ ap (without_if_monitor c.args.control i) (c.loop-k.invariant.groups ∙ ap (λ (j : ℕ). off_from c.args.control j groups) place)
          ∙ without_if_monitor-off_from c.args.control groups c.len-count.ensures.tree.gids_differ i within ∙ ap (λ (j : ℕ). off_from c.args.control j groups) (sym next);
      shareable = c.remove_if_monitor.ensures.shareable ∙ c.loop-k.invariant.shareable;
    }
