-- The entries of accesses.
-- (For functions and proofs: no promise of the program stands on it.)
use Rattle.std.specs.Prelude.{◌≡◌, ℕ, ◌<◌, ◌≤◌, All, Contains, List, Some, length, true}
use Rattle.cache_core.specs.declared.entry.SliceEntry.{SliceEntry}
use Rattle.cache_core.specs.Whats.{is_access}
use Rattle.journal_check.specs.declared.asks.Ask.{Ask}
use Rattle.journal_check.specs.Begun.{IsSeen}
use Rattle.journal_check.specs.OpKinds.{is_access_of}
use Rattle.run_law.specs.Journals.{At, JournalsValue, slice_at}
use Rattle.run_law.specs.TreeHistory.{TreeEntryValue}
use Rattle.run_law.specs.Truth.{IsTrueAccess}
use Rattle.script_ops.specs.Values.{ScriptValue, op_at}
use Rattle.script_ops.specs.declared.op.Op.{Op}

-- the epoch of one
abbrev pub epoch_of : Ask → ℕ
epoch_of ask = ask.epoch

-- an entry is an access, and of an access of the script
abbrev pub IsAsked : ScriptValue → SliceEntry → Type 0
IsAsked script e = (is_access_of (op_at script e.thread e.op) ≡ true) × (is_access e.what ≡ true)

-- this is an entry of an access
pub record IsAskOf (script : ScriptValue) (j : JournalsValue) (ask : Ask) : Type 0 where
  pub entry : SliceEntry
  pub inside : ask.slice < length j.slices
  pub there : At (slice_at j ask.slice) ask.position entry
  pub same_epoch : entry.epoch ≡ ask.epoch
  pub asked : IsAsked script entry

-- these are the entries of accesses in the slices before slice i, and of the first n entries of slice i
pub record AreAsks (script : ScriptValue) (j : JournalsValue) (i n : ℕ) (asks : List Ask) : Type 0 where
  pub each : All (IsAskOf script j) asks
  pub every : (a p : ℕ) (e : SliceEntry) → IsSeen i n a p → At (slice_at j a) p e → IsAsked script e → Contains asks (record { epoch = e.epoch; slice = a; position = p })

-- an entry of an access is true to it
abbrev pub IsPaid : ScriptValue → List TreeEntryValue → SliceEntry → Type 0
IsPaid script tree e = (op : Op) → op_at script e.thread e.op ≡ Some op → IsTrueAccess script tree e op

-- the entry of an ask is true to its access
abbrev pub IsAnswered : ScriptValue → JournalsValue → Ask → Type 0
IsAnswered script j ask = (e : SliceEntry) → At (slice_at j ask.slice) ask.position e → IsPaid script j.tree e

-- the tree had the epoch of an ask, and its entry is true to its access
abbrev pub IsHeld : ScriptValue → JournalsValue → Ask → Type 0
IsHeld script j ask = (ask.epoch ≤ length j.tree) × IsAnswered script j ask
