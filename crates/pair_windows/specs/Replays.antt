-- How far a tree of groups was taken through the ops of a script.
-- (For functions and proofs: no promise of the program stands on it.)
use Rattle.std.specs.Prelude.{◌≡◌, ℕ, ◌≤◌, length}
use Rattle.pair_law.specs.Epochs.{state_at}
use Rattle.pair_text.specs.Values.{IsLawful, PairScriptValue, commands_of, epoch_at}
use Rattle.pair_text.specs.declared.limits.TheConstants.{MOST_COMMANDS}
use Rattle.pair_tree.specs.Values.{PairTreeValue}

-- the tree, and the place of the next op
pub record ReplayValue : Type 0 where
  pub tree : PairTreeValue
  pub place : ℕ

-- a lawful script with no more commands than a tree takes
pub record IsPlayable (script : PairScriptValue) : Type 0 where
  pub lawful : IsLawful script
  pub few : length (commands_of script) ≤ MOST_COMMANDS

-- the tree has taken the commands before the place
pub record HasTaken (script : PairScriptValue) (r : ReplayValue) : Type 0 where
  pub machines : r.tree.machines ≡ script.machines
  pub state : r.tree.state ≡ state_at script r.tree.epoch
  pub epoch : r.tree.epoch ≡ epoch_at script r.place
