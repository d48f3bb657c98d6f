use Rattle.std.proofs.Common.{List, length, ap, ◌∙◌, arith, take_all}
use Rattle.run_law.specs.TreeHistory.{TreeEntryValue, tree_after, tree_from}
use Rattle.run_replay.proofs.laws.Playbacks.{length-entries}
use Rattle.run_replay.specs.Playbacks.{state_before}
use Rattle.tree_law.specs.State.{opening}
use Rattle.way_plans.proofs.final_tree.replay_all.Goals as goal

pub reach-requires-clause-within : goal.reach-requires-clause-within
reach-requires-clause-within c = let all = length-entries c.tree-tree.result.now c.args.journals.now.tree c.tree-tree.ensures in omega (arith, all)

pub reach-requires-clause-taken : goal.reach-requires-clause-taken
reach-requires-clause-taken c = record { taken = c.in_ok-replay.ensures.taken; before = let first = c.in_ok-replay.ensures.before in omega (arith, first) }

pub returns-clause-state : goal.returns-clause-state
unfolding tree_after
returns-clause-state c =
    let script = c.args.script.now in
    let tree = c.args.journals.now.tree in
    let there = c.reach.ensures in
    let all = length-entries c.tree-tree.result.now tree c.tree-tree.ensures in
    there.taken.state
    ∙ (ap (state_before script tree) there.epoch
    ∙ ap (λ (l : List TreeEntryValue). tree_from script (opening script.machine script.tasks) l) (take_all (length c.tree-tree.result.now) tree (omega (arith, all))))
