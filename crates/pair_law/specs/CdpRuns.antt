-- A run with code and data prioritization: what each op enters in the domains' caches.
-- (Intel SDM volume 3, code and data prioritization.)
use Rattle.std.specs.Prelude.{ℕ, Bool, true, false, ◌==◌, if◌then◌else◌, List, [], ◌∷◌, length, Option, unwrap_or}
use Rattle.std.specs.List.{flat_map, range_with_len}
use Rattle.cache_core.specs.declared.entry.SliceEntry.{SliceEntry}
use Rattle.cache_core.specs.declared.entry.What.TheVariants as whats
use Rattle.machine.specs.Maps.{domain_of}
use Rattle.pair_law.specs.Epochs.{state_at}
use Rattle.pair_law.specs.Registers.{class_of, register, register_of}
use Rattle.pair_law.specs.State.{PairState, owner_of}
use Rattle.pair_text.specs.Values.{PairScriptValue, epoch_at, op_at}
use Rattle.pair_text.specs.declared.op.PairOp.{PairOp}
use Rattle.pair_text.specs.declared.side.Side.{Side}
use Rattle.pair_text.specs.declared.side.Side.TheVariants.{First, Second}
use Rattle.pair_law.specs.Entries.{entry}
use Rattle.pair_law.specs.PairRuns.{IsPairRun, op_asks}
use Rattle.rc_base.specs.declared.names.Gid.{Gid}
use Rattle.rc_base.specs.declared.replies.Reply.{Reply}

-- the replies to the commands, and the history of each domain's cache
pub record CdpJournalsValue : Type 0 where
  pub replies : List Reply
  pub slices : List (List SliceEntry)

-- data is the first side, code the second
abbrev pub side_of : Bool → Side
side_of true = Second
side_of false = First

-- the owner that stands for a side of a group: twice its serial number for data, and one more for code
abbrev pub owner_on : Gid → Side → Gid
owner_on gid side = record { 0 = register_of gid.0 side }

-- the mask in the register of a group's class and of a side
abbrev pub register_mask : PairState → Side → ℕ → Gid → ℕ
register_mask s side domain gid = unwrap_or (register s domain (register_of (class_of s gid) side)) 0

-- what a use of one of a domain's CPUs asks of the domain's cache: an access, under the register of its group and side in the state
-- of that moment
abbrev pub asked_of_use : PairScriptValue → ℕ → ℕ → ℕ → ℕ → ℕ → Bool → List SliceEntry
asked_of_use script domain i task cpu line code =
    if domain_of script.machines.machine cpu == domain
    then entry i (epoch_at script i) (whats.Access false 0 (owner_on (owner_of (state_at script (epoch_at script i)) task) (side_of code)) 0
    (register_mask (state_at script (epoch_at script i)) (side_of code) domain (owner_of (state_at script (epoch_at script i)) task)) line) ∷ []
    else []

abbrev pub asked_of_op : PairScriptValue → ℕ → ℕ → Option PairOp → List SliceEntry
asked_of_op script domain i op = op_asks script (asked_of_use script domain i) i op

abbrev pub asked_at : PairScriptValue → ℕ → ℕ → List SliceEntry
asked_at script domain i = asked_of_op script domain i (op_at script i)

-- what all ops ask of it, in the order of the script
abbrev pub asked : PairScriptValue → ℕ → List SliceEntry
asked script domain = flat_map (asked_at script domain) (range_with_len 0 (length script.ops))

-- a run of a script in the caches of the machine
abbrev pub IsCdpRun : PairScriptValue → CdpJournalsValue → Type 0
IsCdpRun script j = IsPairRun script j.replies script.machines.machine (asked script) j.slices
