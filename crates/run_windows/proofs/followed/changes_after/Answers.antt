use Rattle.std.proofs.Common.{◌+◌, subst, ◌∙◌, arith}
use Rattle.run_replay.proofs.laws.Playbacks.{length-entries}
use Rattle.run_windows.specs.Changes.{AreChanges, logged}
use Rattle.run_windows.proofs.followed.changes_after.Goals as goal

pub follow-requires-clause-within : goal.follow-requires-clause-within
follow-requires-clause-within c = let all = length-entries c.tree-tree.result.now c.args.run.now.journals.now.tree c.tree-tree.ensures in omega (arith, all)

pub follow-requires-clause-taken : goal.follow-requires-clause-taken
follow-requires-clause-taken c =
    let all = length-entries c.tree-tree.result.now c.args.run.now.journals.now.tree c.tree-tree.ensures in
    record { taken = c.requires.taken.taken; before = let before = c.requires.taken.before in omega (arith, all, before) }

pub closed-requires : goal.closed-requires
closed-requires c =
    let script = c.args.run.now.script.now in
    let j = c.args.run.now.journals.now in
    let all = length-entries c.tree-tree.result.now j.tree c.tree-tree.ensures in
    let did = c.in_ok-follow.ensures in
    subst (λ n. AreChanges script j (n + 1) (logged c.follow.new.log)) (did.epoch ∙ all) did.noted.changes
