-- A run with two levels: what each op enters in the L2 and L3 caches.
use Rattle.std.specs.Prelude.{ℕ, Bool, true, false, not, ◌==◌, ◌&&◌, if◌then◌else◌, List, [], ◌∷◌, length, Option}
use Rattle.std.specs.List.{flat_map, list_any, range_with_len}
use Rattle.cache_core.specs.declared.entry.SliceEntry.{SliceEntry}
use Rattle.cache_core.specs.declared.entry.What.{What}
use Rattle.cache_core.specs.declared.entry.What.TheVariants as whats
use Rattle.machine.specs.Maps.{domain_of}
use Rattle.pair_law.specs.Epochs.{state_at}
use Rattle.pair_law.specs.Registers.{mask_of_group}
use Rattle.pair_law.specs.State.{owner_of}
use Rattle.pair_text.specs.Values.{PairScriptValue, epoch_at, op_at, side_machine}
use Rattle.pair_text.specs.declared.op.PairOp.{PairOp}
use Rattle.pair_text.specs.declared.side.Side.{Side}
use Rattle.pair_text.specs.declared.side.Side.TheVariants.{First, Second}
use Rattle.pair_law.specs.Entries.{entry, slice_in}
use Rattle.pair_law.specs.PairRuns.{IsPairRun, op_asks}
use Rattle.rc_base.specs.declared.names.Gid.{Gid}
use Rattle.rc_base.specs.declared.replies.Reply.{Reply}

-- the replies to the commands, and the history of each L2 and of each L3 cache
pub record LevelJournalsValue : Type 0 where
  pub replies : List Reply
  pub l2 : List (List SliceEntry)
  pub l3 : List (List SliceEntry)

-- the histories of a level
abbrev pub level : LevelJournalsValue → Side → List (List SliceEntry)
level j First = j.l2
level j Second = j.l3

-- the domain of a CPU at a level
abbrev pub domain_on : PairScriptValue → Side → ℕ → ℕ
domain_on script side cpu = domain_of (side_machine script.machines side) cpu

-- an access that missed
abbrev pub is_miss : What → Bool
is_miss (whats.Access hit way owner rmid mask line) = not hit
is_miss what = false

-- an access that hit
abbrev pub is_hit : What → Bool
is_hit (whats.Access hit way owner rmid mask line) = hit
is_hit what = false

-- an op's entry there passes a test
abbrev pub has_at : List SliceEntry → ℕ → (What → Bool) → Bool
has_at entries i p = list_any (λ (e : SliceEntry). (e.op == i) && p e.what) entries

-- the owner of a use
abbrev pub user_at : PairScriptValue → ℕ → ℕ → Gid
user_at script i task = owner_of (state_at script (epoch_at script i)) task

-- whether a use is asked at a level: at the L2 always, and at the L3 exactly where its L2 entry is a miss
abbrev pub reaches : PairScriptValue → LevelJournalsValue → Side → ℕ → ℕ → Bool
reaches script j First i cpu = true
reaches script j Second i cpu = has_at (slice_in j.l2 (domain_on script First cpu)) i is_miss

-- what a use asks of a cache of a level that it reaches: an access with its group's mask there
abbrev pub asked_of_use : PairScriptValue → LevelJournalsValue → Side → ℕ → ℕ → ℕ → ℕ → ℕ → Bool → List SliceEntry
asked_of_use script j side domain i task cpu line code =
    if (domain_on script side cpu == domain) && reaches script j side i cpu
    then entry i (epoch_at script i) (whats.Access false 0 (user_at script i task) 0 (mask_of_group (state_at script (epoch_at script i)) side domain (user_at script i task)) line) ∷ []
    else []

abbrev pub asked_of_op : PairScriptValue → LevelJournalsValue → Side → ℕ → ℕ → Option PairOp → List SliceEntry
asked_of_op script j side domain i op = op_asks script (asked_of_use script j side domain i) i op

abbrev pub asked_at : PairScriptValue → LevelJournalsValue → Side → ℕ → ℕ → List SliceEntry
asked_at script j side domain i = asked_of_op script j side domain i (op_at script i)

-- what all ops ask of it, in the order of the script
abbrev pub asked : PairScriptValue → LevelJournalsValue → Side → ℕ → List SliceEntry
asked script j side domain = flat_map (asked_at script j side domain) (range_with_len 0 (length script.ops))

-- a run of a script in the caches of each level
abbrev pub IsLevelRun : PairScriptValue → LevelJournalsValue → Type 0
IsLevelRun script j = (side : Side) → IsPairRun script j.replies (side_machine script.machines side) (asked script j side) (level j side)
