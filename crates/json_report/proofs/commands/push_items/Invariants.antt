use Rattle.std.proofs.Common.{◌≡◌, ◌++◌, false, map, take}
use Rattle.json_report.specs.Commands.{command_values}
use Rattle.json_report.specs.Pieces.{items_told}
use Rattle.run_law.specs.Entries.{entry_value}
use Rattle.run_replay.specs.Playbacks.{HasTakenBefore}
use Rattle.tree_law.specs.State.{opening}
use Rattle.json_report.proofs.commands.push_items.Given as goal

abbrev pub invariant-loop-k : goal.invariant-loop-k
invariant-loop-k g l = record {
  taken : HasTakenBefore l.run.script.now l.run.journals.now.tree l.k (g.R.Playback.played l.replay);
  notes : g.R.Playback.notes l.run.script.now l.run.journals.now l.replay;
  text : l.report ≡ l.initial.report ++ items_told false (command_values l.run.script.now l.run.journals.now (opening l.run.script.now.machine l.run.script.now.tasks) 0 (map entry_value (take l.k l.tree)));
}
