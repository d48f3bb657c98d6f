-- Runs of pair scripts of either kind: the replies to the commands, and what each op enters in the caches.
use Rattle.std.specs.Prelude.{◌≡◌, ℕ, ◌+◌, ◌<◌, Bool, List, [], ◌∷◌, length, map, Option, Some}
use Rattle.cache_core.specs.History.{IsLegal, shape_of}
use Rattle.cache_core.specs.declared.entry.SliceEntry.{SliceEntry}
use Rattle.cache_core.specs.declared.entry.What.TheVariants as whats
use Rattle.machine.specs.declared.parameters.Parameters.{Parameters}
use Rattle.pair_law.specs.Epochs.{replies_to}
use Rattle.pair_law.specs.State.{opening}
use Rattle.pair_text.specs.Values.{PairScriptValue, commands_of, epoch_at}
use Rattle.pair_text.specs.declared.op.PairOp.{PairOp}
use Rattle.pair_text.specs.declared.op.PairOp.TheVariants as ops
use Rattle.pair_law.specs.Entries.{asked_by, entry, slice_in}
use Rattle.rc_base.specs.declared.replies.Reply.{Reply}

-- what an op asks of a cache of which a use asks this: a flush a flush, and any other command nothing
abbrev pub op_asks : PairScriptValue → (ℕ → ℕ → ℕ → Bool → List SliceEntry) → ℕ → Option PairOp → List SliceEntry
op_asks script use_asks i (Some (ops.Use task cpu line code)) = use_asks task cpu line code
op_asks script use_asks i (Some ops.Flush) = entry i (epoch_at script i + 1) whats.Flush ∷ []
op_asks script use_asks i op = []

-- A run of a script in the caches of a machine, one for each domain: each command in order and once, with its reply; and in each
-- cache a legal history of just what was asked of it.
pub record IsPairRun (script : PairScriptValue) (answers : List Reply) (machine : Parameters) (asked : ℕ → List SliceEntry) (histories : List (List SliceEntry)) : Type 0 where
  pub replies : answers ≡ replies_to script.machines (opening script.machines script.tasks) (commands_of script)
  pub one_each : length histories ≡ machine.domains
  pub entries : (domain : ℕ) → domain < machine.domains → map asked_by (slice_in histories domain) ≡ asked domain
  pub legal : (domain : ℕ) → domain < machine.domains → IsLegal (shape_of machine 0) (slice_in histories domain)
