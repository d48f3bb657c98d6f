use Rattle.std.proofs.Common.{ℕ, ◌+◌, ◌++◌, List, map, take, ap, ◌∙◌, arith}
use Rattle.std.proofs.lemmas.List.{append_assoc}
use Rattle.std.specs.Prelude.{nat_lt}
use Rattle.json_report.proofs.laws.Pieces.{items_told-next}
use Rattle.json_report.proofs.JsonPositions.{command_values-take_suc, length-command_values_take}
use Rattle.json_report.specs.Commands.{command_value, command_values}
use Rattle.run_counts.proofs.laws.Touches.{TellsTouch-entry}
use Rattle.run_law.specs.Entries.{entry_value}
use Rattle.run_replay.proofs.laws.Playbacks.{At-entries, HasTakenBefore-suc, length-entries, state_before-entries}
use Rattle.run_replay.specs.Playbacks.{state_before}
use Rattle.serde_json.specs.Written.{comma_if, compact_text}
use Rattle.tree_law.specs.State.{opening}
use Rattle.json_report.proofs.commands.push_items.Goals as goal

pub push_command-requires-clause-entry : goal.push_command-requires-clause-entry
push_command-requires-clause-entry g c = At-entries c.tree-tree.result.now c.args.run.now.journals.now.tree c.tree-tree.ensures c.loop-k.k c.index-tree-k.result c.loop-k-test.true c.index-tree-k.is

pub push_command-requires-clause-hit : goal.push_command-requires-clause-hit
push_command-requires-clause-hit g c =
    TellsTouch-entry c.args.run.now.journals.now c.tree-tree.result.now c.loop-k.k c.index-tree-k.result c.in_ok-touches.touches c.hit-hit.result c.tree-tree.ensures c.in_ok-touches.ensures.told c.loop-k-test.true c.index-tree-k.is c.hit-hit.ensures

pub loop-k-preserved : goal.loop-k-preserved
loop-k-preserved g c =
    let script = c.args.run.now.script.now in
    let j = c.args.run.now.journals.now in
    let start = opening script.machine script.tasks in
    let es = c.tree-tree.result.now in
    let k = c.loop-k.k in
    let e = c.index-tree-k.result in
    let state = state_before script j.tree k in
    let did = c.in_ok-push_command.ensures in
    let item : List ℕ = compact_text (command_value script j state k (entry_value e)) in
    record {
      taken = HasTakenBefore-suc script j.tree k (g.R.Playback.played c.push_command.new.replay) did.taken;
      notes = did.notes;
      text =
          items_told-next (command_values script j start 0 (map entry_value (take k es))) (command_values script j start 0 (map entry_value (take (k + 1) es))) (command_value script j state k (entry_value e)) k c.args.report.now c.loop-k.report
          c.push_command.new.report (length-command_values_take script j start es k c.loop-k-test.true) (command_values-take_suc script j start state es k e c.loop-k-test.true c.index-tree-k.is (state_before-entries es j.tree c.tree-tree.ensures script k)) c.loop-k.invariant.text
          (did.text ∙ (ap (λ (t : List ℕ). t ++ item) c.in_ok-push_comma.ensures ∙ append_assoc c.loop-k.report (comma_if (nat_lt 0 k)) item));
    }

pub returns-clause-taken : goal.returns-clause-taken
returns-clause-taken g c =
    let tree = c.args.run.now.journals.now.tree in
    let all = length-entries c.tree-tree.result.now tree c.tree-tree.ensures in
    let most = c.loop-k.auto.k-end in
    let before = c.loop-k.invariant.taken.before in
    record { taken = c.loop-k.invariant.taken.taken; before = omega (arith, all, most, before) }
