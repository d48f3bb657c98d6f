-- Which entries of slices are true to their ops.
use Rattle.std.specs.Prelude.{◌≡◌, ℕ, ◌<◌, ◌≤◌, Bool, true, false, ◌==◌, ◌&&◌, IsTrue, List, length, Contains, Some}
use Rattle.cache_core.specs.declared.entry.SliceEntry.{SliceEntry}
use Rattle.cache_core.specs.declared.entry.What.{What}
use Rattle.cache_core.specs.declared.entry.What.TheVariants as whats
use Rattle.run_law.specs.Journals.{At, JournalsValue, slice_at}
use Rattle.run_law.specs.Ops.{ByKind}
use Rattle.run_law.specs.Owed.{owed_by_access, owed_by_command, paid_by}
use Rattle.run_law.specs.TreeHistory.{TreeEntryValue}
use Rattle.script_ops.specs.Values.{ScriptValue, op_at}
use Rattle.script_ops.specs.declared.op.Op.{Op}
use Rattle.script_ops.specs.declared.op.Op.TheVariants.{Access}

-- an entry of a slice is of this op
abbrev pub is_made_by : ℕ → ℕ → SliceEntry → Bool
is_made_by thread op e = (e.thread == thread) && (e.op == op)

-- an entry of the tree is of this op
abbrev pub is_taken_from : ℕ → ℕ → TreeEntryValue → Bool
is_taken_from thread op h = (h.thread == thread) && (h.op == op)

-- the entry is one of those that its command owes at its position in the tree's history
pub record IsOwed (script : ScriptValue) (tree : List TreeEntryValue) (i : ℕ) (e : SliceEntry) (op : Op) : Type 0 where
  pub position : ℕ
  pub command : TreeEntryValue
  pub there : At tree position command
  pub same_thread : command.thread ≡ e.thread
  pub same_op : command.op ≡ e.op
  pub owed : Contains (owed_by_command script tree i position op) (paid_by e)

-- whether the op is an access, and the entry tells an Access
abbrev pub is_of_access : Op → What → Bool
is_of_access (Access task cpu addr) (whats.Access hit way owner rmid mask line) = true
is_of_access op what = false

-- The entry of an access has an epoch that the tree had, and the line of its address with the owner, the RMID and the mask
-- that the tree of that epoch gives to its task and CPU.
abbrev pub IsTrueAccess : ScriptValue → List TreeEntryValue → SliceEntry → Op → Type 0
IsTrueAccess script tree e op = ByKind (λ task cpu addr. (e.epoch ≤ length tree) × (paid_by e ≡ owed_by_access script tree e.epoch task cpu addr)) ⊥ op

-- Any other entry is of a command, and one of those that it owes.
abbrev pub IsTrueCommand : ScriptValue → List TreeEntryValue → ℕ → SliceEntry → Op → Type 0
IsTrueCommand script tree i e op = ByKind (λ task cpu addr. ⊥) (IsOwed script tree i e op) op

-- The entries are true to their ops, and an entry of an epoch stands after all entries of other commands before that epoch.
-- The first two say nothing of an entry of no op of the script.
pub record AreTrue (script : ScriptValue) (j : JournalsValue) : Type 0 where
  pub accesses :
      (i p : ℕ) (e : SliceEntry) (op : Op) → At (slice_at j i) p e → op_at script e.thread e.op ≡ Some op → is_of_access op e.what ≡ true
      → IsTrueAccess script j.tree e op
  pub others :
      (i p : ℕ) (e : SliceEntry) (op : Op) → At (slice_at j i) p e → op_at script e.thread e.op ≡ Some op → is_of_access op e.what ≡ false
      → IsTrueCommand script j.tree i e op
  pub after_commands :
      (i p q k : ℕ) (e earlier : SliceEntry) (command : TreeEntryValue)
      → At (slice_at j i) p e → At (slice_at j i) q earlier → At j.tree k command
      → IsTrue (is_made_by command.thread command.op earlier) → k < e.epoch → (IsTrue (is_made_by command.thread command.op e) → ⊥)
      → q < p
