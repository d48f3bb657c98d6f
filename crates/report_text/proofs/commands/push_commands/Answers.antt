use Rattle.std.proofs.Common.{arith}
use Rattle.run_counts.proofs.laws.Touches.{TellsTouch-entry}
use Rattle.report_text.proofs.CommandLines.{command_lines-take_suc}
use Rattle.run_replay.proofs.laws.Playbacks.{At-entries, HasTakenBefore-suc, length-entries, state_before-entries}
use Rattle.run_replay.specs.Playbacks.{state_before}
use Rattle.tree_law.specs.State.{opening}
use Rattle.report_text.proofs.commands.push_commands.Goals as goal

pub push_command-requires-clause-entry : goal.push_command-requires-clause-entry
push_command-requires-clause-entry g c = At-entries c.tree-tree.result.now c.args.run.now.journals.now.tree c.tree-tree.ensures c.loop-k.k c.index-tree-k.result c.loop-k-test.true c.index-tree-k.is

pub push_command-requires-clause-hit : goal.push_command-requires-clause-hit
push_command-requires-clause-hit g c =
    TellsTouch-entry c.args.run.now.journals.now c.tree-tree.result.now c.loop-k.k c.index-tree-k.result c.in_ok-touches.touches c.hit-hit.result c.tree-tree.ensures c.in_ok-touches.ensures.told c.loop-k-test.true c.index-tree-k.is c.hit-hit.ensures

pub loop-k-preserved : goal.loop-k-preserved
loop-k-preserved g c =
    let script = c.args.run.now.script.now in
    let j = c.args.run.now.journals.now in
    let es = c.tree-tree.result.now in
    let k = c.loop-k.k in
    let did = c.in_ok-push_command.ensures in
    record {
      taken = HasTakenBefore-suc script j.tree k (g.R.Playback.played c.push_command.new.replay) did.taken;
      notes = did.notes;
      text = command_lines-take_suc script j (opening script.machine script.tasks) es k c.index-tree-k.result (state_before script j.tree k) c.args.report.now c.loop-k.report c.push_command.new.report c.loop-k-test.true c.index-tree-k.is (state_before-entries es j.tree c.tree-tree.ensures script k) c.loop-k.invariant.text did.text;
    }

pub returns-clause-taken : goal.returns-clause-taken
returns-clause-taken g c =
    let tree = c.args.run.now.journals.now.tree in
    let all = length-entries c.tree-tree.result.now tree c.tree-tree.ensures in
    let most = c.loop-k.auto.k-end in
    let before = c.loop-k.invariant.taken.before in
    record { taken = c.loop-k.invariant.taken.taken; before = omega (arith, all, most, before) }
