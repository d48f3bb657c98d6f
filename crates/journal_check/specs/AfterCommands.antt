-- Entries of a slice after all entries of other commands before their epoch, and how far a walk through them has come.
-- (For functions and proofs: no promise of the program stands on it.)
use Rattle.std.specs.Prelude.{◌≡◌, ℕ, ◌<◌, ◌≤◌, ◌⊎◌, IsSome, IsTrue, List, None, Option, Some, if◌then◌else◌, nat_lt, max}
use Rattle.cache_core.specs.declared.entry.SliceEntry.{SliceEntry}
use Rattle.journal_check.specs.declared.after_commands.TwoLatestEpochs.{TwoLatestEpochs}
use Rattle.run_law.specs.Journals.{At}
use Rattle.run_law.specs.Truth.{is_made_by}
use Rattle.run_law.specs.TreeHistory.{TreeEntryValue}
use Rattle.script_ops.specs.Values.{ScriptValue, op_at}

-- In the list of a slice, an entry of an epoch stands after all entries of other commands before that epoch. Entries of no op of
-- the script are passed over.
abbrev pub IsAfterCommands : ScriptValue → List TreeEntryValue → List SliceEntry → Type 0
IsAfterCommands script tree entries =
    (p q k : ℕ) (e earlier : SliceEntry) (command : TreeEntryValue)
    → At entries p e → At entries q earlier → At tree k command → IsSome (op_at script e.thread e.op)
    → IsTrue (is_made_by command.thread command.op earlier) → k < e.epoch → (IsTrue (is_made_by command.thread command.op e) → ⊥)
    → q < p

-- an entry is not of the op
abbrev pub IsOther : ℕ → ℕ → SliceEntry → Type 0
IsOther thread op e = IsTrue (is_made_by thread op e) → ⊥

-- one of the first n entries, of an op of the script
pub record IsPassed (script : ScriptValue) (entries : List SliceEntry) (n p : ℕ) (e : SliceEntry) : Type 0 where
  pub within : p < n
  pub there : At entries p e
  pub of_op : IsSome (op_at script e.thread e.op)

-- these are the greatest epochs of the first n entries
pub record IsLatest (script : ScriptValue) (entries : List SliceEntry) (n : ℕ) (l : TwoLatestEpochs) : Type 0 where
  pub epochs : (p : ℕ) (e : SliceEntry) → IsPassed script entries n p e → e.epoch ≤ l.epoch
  pub others : (p : ℕ) (e : SliceEntry) → IsPassed script entries n p e → IsOther l.thread l.op e → e.epoch ≤ l.other
  pub epoch_there : (l.epoch ≡ 0) ⊎ ((p : ℕ) × (e : SliceEntry) × IsPassed script entries n p e × IsTrue (is_made_by l.thread l.op e) × (e.epoch ≡ l.epoch))
  pub other_there : (l.other ≡ 0) ⊎ ((p : ℕ) × (e : SliceEntry) × IsPassed script entries n p e × IsOther l.thread l.op e × (e.epoch ≡ l.other))

-- no entry of a command among the first n entries stands after one of another op of a later epoch
abbrev pub AreAfterUpTo : ScriptValue → List TreeEntryValue → List SliceEntry → ℕ → Type 0
AreAfterUpTo script tree entries n =
    (p q k : ℕ) (e earlier : SliceEntry) (command : TreeEntryValue)
    → IsPassed script entries n p e → q < n → At entries q earlier → At tree k command
    → IsTrue (is_made_by command.thread command.op earlier) → k < e.epoch → IsOther command.thread command.op e
    → q < p

-- the greatest epoch of an entry of another op than this entry's
abbrev pub other_epoch : TwoLatestEpochs → SliceEntry → ℕ
other_epoch l e = if is_made_by l.thread l.op e then l.other else l.epoch

-- with one entry more
abbrev pub noted : TwoLatestEpochs → SliceEntry → TwoLatestEpochs
noted l e =
    if is_made_by l.thread l.op e
    then record l { epoch = max l.epoch e.epoch }
    else (if nat_lt l.epoch e.epoch then record { thread = e.thread; op = e.op; epoch = e.epoch; other = l.epoch } else record l { other = max l.other e.epoch })

-- an entry of a command at this place, counted from 1, or of no command where that is 0, stands after one of another op of a
-- later epoch
abbrev pub IsLate : TwoLatestEpochs → ℕ → SliceEntry → Type 0
IsLate l place e = (0 < place) × (place ≤ other_epoch l e)

-- an entry of an op at this place, if it is of one, is late
abbrev pub IsRefused : TwoLatestEpochs → Option ℕ → SliceEntry → Type 0
IsRefused l None e = ⊥
IsRefused l (Some place) e = IsLate l place e

-- it is not, and these are the epochs with it; one of no op is passed over
abbrev pub IsAccepted : TwoLatestEpochs → Option ℕ → SliceEntry → TwoLatestEpochs → Type 0
IsAccepted l None e next = next ≡ l
IsAccepted l (Some place) e next = (IsLate l place e → ⊥) × (next ≡ noted l e)
