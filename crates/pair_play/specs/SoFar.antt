-- What was played of a pair script so far: its first ops.
-- (For functions and proofs: no promise of the program stands on it.)
use Rattle.std.specs.Prelude.{◌≡◌, ℕ, ◌+◌, ◌^◌, ◌<◌, ◌≤◌, All, List, [], ◌∷◌, ◌++◌, filter, length, map, take}
use Rattle.std.specs.List.{flat_map, range_with_len}
use Rattle.cache_core.specs.declared.entry.SliceEntry.{SliceEntry}
use Rattle.machine.specs.declared.parameters.Parameters.{Parameters}
use Rattle.pair_law.specs.Epochs.{replies_to, state_at}
use Rattle.pair_law.specs.State.{opening}
use Rattle.pair_law.specs.Steps.{next}
use Rattle.pair_text.specs.Values.{PairScriptValue, commands_of, epoch_at, is_command}
use Rattle.pair_text.specs.declared.op.PairOp.{PairOp}
use Rattle.pair_play.specs.Histories.{IsNotAfter, LevelValue}
use Rattle.pair_law.specs.Entries.{asked_by, slice_in}
use Rattle.pair_text.specs.declared.limits.TheConstants.{MOST_COMMANDS}
use Rattle.pair_tree.specs.Values.{PairTreeValue}
use Rattle.rc_base.specs.declared.replies.Reply.{Reply}

-- a script with no more commands than a tree takes, and no more ops than an entry can name
pub record IsShort (script : PairScriptValue) : Type 0 where
  pub commands : length (commands_of script) ≤ MOST_COMMANDS
  pub ops : length script.ops < 2 ^ 32

-- ---- commands

-- the tree, and the replies to the commands that it took
pub record CommandsValue : Type 0 where
  pub tree : PairTreeValue
  pub replies : List Reply

-- after one command more
abbrev pub taken : CommandsValue → PairOp → CommandsValue
taken c op = record {
  tree = record c.tree { state = (next c.tree.machines c.tree.state op).state; epoch = c.tree.epoch + 1 };
  replies = c.replies ++ (next c.tree.machines c.tree.state op).reply ∷ [];
}

-- the commands among the first ops of a script were taken
pub record AreCommandsSoFar (script : PairScriptValue) (i : ℕ) (c : CommandsValue) : Type 0 where
  pub machines : c.tree.machines ≡ script.machines
  pub state : c.tree.state ≡ state_at script (epoch_at script i)
  pub epoch : c.tree.epoch ≡ epoch_at script i
  pub replies : c.replies ≡ replies_to script.machines (opening script.machines script.tasks) (filter is_command (take i script.ops))

-- ---- levels

-- A history of what the first ops asked of a cache. No flush in it is of a later epoch than this, and each entry is of one of the ops.
pub record IsHistorySoFar (asked : List SliceEntry) (i epoch : ℕ) (history : List SliceEntry) : Type 0 where
  pub entries : map asked_by history ≡ asked
  pub floor : IsNotAfter epoch history
  pub count : length history ≤ i
  pub ops : All (λ (e : SliceEntry). e.op < i) history

-- the caches of a level after the first ops, of which op k asks `asked d k` of the cache of domain d
pub record IsLevelSoFar (asked : ℕ → ℕ → List SliceEntry) (p : Parameters) (i epoch : ℕ) (level : LevelValue) : Type 0 where
  pub parameters : level.parameters ≡ p
  pub one_each : length level.histories ≡ p.domains
  pub each : (d : ℕ) → d < p.domains → IsHistorySoFar (flat_map (asked d) (range_with_len 0 i)) i epoch (slice_in level.histories d)
