-- A tree that is taken through the history of a run, with the changes of the exclusive groups.
-- (For functions and proofs: no promise of the program stands on it.)
use Rattle.run_law.specs.Journals.{JournalsValue}
use Rattle.run_windows.specs.Changes.{HasNoted}
use Rattle.run_windows.specs.declared.followed.FollowedReplay.{FollowedReplay}
use Rattle.script_ops.specs.Values.{ScriptValue}
use Rattle.tree_core.specs.Values.{TreeValue}

-- the tree as it is now
abbrev pub followed_tree : FollowedReplay → TreeValue
followed_tree f = f.replay

-- what was noted so far is right for this run
abbrev pub HasFollowed : ScriptValue → JournalsValue → FollowedReplay → Type 0
HasFollowed script j f = HasNoted script j f.replay f.log
