-- What a thread has done, read off the journals.
-- (For functions and proofs: no promise of the program stands on it.)
use Rattle.std.specs.Prelude.{◌≡◌, ℕ, ◌<◌, ◌≤◌, List, length, Some}
use Rattle.cache_core.specs.declared.entry.SliceEntry.{SliceEntry}
use Rattle.lists.specs.Sums.{one_if}
use Rattle.machine.specs.Slices.{slice_count}
use Rattle.run_law.specs.Journals.{At, JournalsValue, slice_at}
use Rattle.run_law.specs.Ops.{ByKind, is_command, phase_in}
use Rattle.run_law.specs.Order.{Makes}
use Rattle.run_law.specs.Owed.{owed_by_access, paid_by}
use Rattle.run_law.specs.Quotas.{quota}
use Rattle.run_law.specs.TreeHistory.{TreeEntryValue}
use Rattle.script_ops.specs.Values.{ScriptValue, op_at, ops_of}
use Rattle.script_ops.specs.declared.op.Op.{Op}
use Rattle.live_law.specs.SeenJournals.{HasGrown, made_in, taken_in}

-- an entry of an access is true in the tree's history; of an entry of a command nothing is said
abbrev pub IsTrueIfAccess : ScriptValue → List TreeEntryValue → SliceEntry → Op → Type 0
IsTrueIfAccess script tree e c =
    ByKind
    (λ task cpu addr. (e.epoch ≤ length tree) × (paid_by e ≡ owed_by_access script tree e.epoch task cpu addr))
    (Unit {0})
    c

-- A thread's first n ops are done: each command stands once in the tree's history, and each access never; each op has made in
-- each slice what it makes there, which is no more than its quota; and each entry of its accesses is true.
pub record HasDone (script : ScriptValue) (v : JournalsValue) (t n : ℕ) : Type 0 where
  pub commands_once : (op : ℕ) (c : Op) → op < n → op_at script t op ≡ Some c → length (taken_in v t op) ≡ one_if (is_command c)
  pub entries_once :
      (i op : ℕ) (c : Op) → i < slice_count script.machine → op < n → op_at script t op ≡ Some c
      → Makes script v i t op c (made_in v i t op)
  pub few :
      (i op : ℕ) (c : Op) → i < slice_count script.machine → op < n → op_at script t op ≡ Some c
      → length (made_in v i t op) ≤ quota script.machine i c
  pub accesses :
      (i p : ℕ) (e : SliceEntry) (c : Op) → At (slice_at v i) p e → e.thread ≡ t → op_at script t e.op ≡ Some c
      → IsTrueIfAccess script v.tree e c

-- a thread is at its end in what was seen, or was so in a beginning of it
abbrev pub HasEnded : ScriptValue → JournalsValue → ℕ → Type 0
HasEnded script v t = (w : JournalsValue) × HasGrown w v × HasDone script w t (length (ops_of script t))

-- all threads of phases before that of thread t are at their ends
abbrev pub AreEnded : ScriptValue → JournalsValue → ℕ → Type 0
AreEnded script v t = (u : ℕ) → phase_in script.phases u < phase_in script.phases t → HasEnded script v u
