-- A command of a run, at its position in the history of the tree.
-- (For functions and proofs: no promise of the program stands on it.)
use Rattle.std.specs.Prelude.{ℕ, List, Option}
use Rattle.run_law.specs.Entries.{entry_value}
use Rattle.run_law.specs.Journals.{At}
use Rattle.run_replay.specs.Playbacks.{HasTakenBefore, given, state_before}
use Rattle.run_replay.specs.declared.command_at.CommandAt.{CommandAt}
use Rattle.tree_core.specs.Values.{TreeValue}
use Rattle.tree_law.specs.State.{State}

-- the entry stands at the position
abbrev pub IsInRun : CommandAt → Type 0
IsInRun c = At c.run.journals.now.tree c.position (entry_value c.entry.now)

-- the tree has taken commands before this one alone
abbrev pub IsTreeBefore : CommandAt → TreeValue → Type 0
IsTreeBefore c t = HasTakenBefore c.run.script.now c.run.journals.now.tree c.position t

-- the state before the command
abbrev pub state_at_command : CommandAt → State
state_at_command c = state_before c.run.script.now c.run.journals.now.tree c.position

-- the text that the command gives
abbrev pub given_at : CommandAt → Option (List ℕ)
given_at c = given c.run.script.now (state_at_command c) (entry_value c.entry.now)
