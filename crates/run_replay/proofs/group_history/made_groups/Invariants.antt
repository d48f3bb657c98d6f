use Rattle.std.proofs.Common.{map, take}
use Rattle.run_law.specs.Entries.{entry_value}
use Rattle.run_replay.specs.GroupHistories.{IsHistory}
use Rattle.tree_law.specs.State.{opening}
use Rattle.run_replay.proofs.group_history.made_groups.Given as goal

abbrev pub invariant-loop-entry : goal.invariant-loop-entry
invariant-loop-entry l = IsHistory l.script (opening l.script.machine l.script.tasks) (map entry_value (take l.entry-index l.tree)) l.history
