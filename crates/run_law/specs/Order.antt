-- Each op once, and in its order.
use Rattle.std.specs.Prelude.{◌≡◌, ℕ, ◌+◌, ◌<◌, ◌≤◌, ◌==◌, IsTrue, IsSome, List, length, map, filter, Some}
use Rattle.cache_core.specs.declared.entry.SliceEntry.{SliceEntry}
use Rattle.lists.specs.Sums.{one_if}
use Rattle.machine.specs.Maps.{domain_of, line_of}
use Rattle.run_law.specs.Journals.{At, JournalsValue, slice_at}
use Rattle.run_law.specs.Ops.{ByKind, Precedes, is_command}
use Rattle.run_law.specs.Owed.{owed_by_command, paid_by}
use Rattle.machine.specs.Slices.{slice_count, slice_of_line}
use Rattle.run_law.specs.TreeHistory.{TreeEntryValue}
use Rattle.run_law.specs.Truth.{is_made_by, is_taken_from}
use Rattle.script_ops.specs.Values.{ScriptValue, op_at}
use Rattle.script_ops.specs.declared.op.Op.{Op}

-- what a command owes to slice i, at its position in the tree's history, is just what these entries pay
abbrev pub Pays : ScriptValue → JournalsValue → ℕ → ℕ → ℕ → Op → List SliceEntry → Type 0
Pays script j i thread op command made =
    (k : ℕ) (h : TreeEntryValue) → At j.tree k h → IsTrue (is_taken_from thread op h) → map paid_by made ≡ owed_by_command script j.tree i k command

-- The entries of an op in slice i are those that it makes there: an access one entry in the slice of its line, and a command
-- what it owes.
abbrev pub Makes : ScriptValue → JournalsValue → ℕ → ℕ → ℕ → Op → List SliceEntry → Type 0
Makes script j i thread op c made =
    ByKind
    (λ task cpu addr. length made ≡ one_if (i == slice_of_line script.machine (domain_of script.machine cpu) (line_of addr)))
    (Pays script j i thread op c made)
    c

-- a command that the tree took at position k has the marks k and k + 1
abbrev pub IsTakenAt : JournalsValue → ℕ → ℕ → ℕ → ℕ → Type 0
IsTakenAt j thread op start stop = (h : TreeEntryValue) × At j.tree start h × IsTrue (is_taken_from thread op h) × (stop ≡ start + 1)

-- both marks of an access are the epoch of its entry
abbrev pub IsMadeAt : JournalsValue → ℕ → ℕ → ℕ → ℕ → Type 0
IsMadeAt j thread op start stop = (i p : ℕ) × (e : SliceEntry) × At (slice_at j i) p e × IsTrue (is_made_by thread op e) × (e.epoch ≡ start) × (stop ≡ start)

-- the epochs between which an op happened
abbrev pub HasMarks : JournalsValue → ℕ → ℕ → Op → ℕ → ℕ → Type 0
HasMarks j thread op c start stop = ByKind (λ task cpu addr. IsMadeAt j thread op start stop) (IsTakenAt j thread op start stop) c

-- Each op is there once, and ops that come before others in the script happened before them.
pub record AreInOrder (script : ScriptValue) (j : JournalsValue) : Type 0 where
  pub commands_once : (thread op : ℕ) (c : Op) → op_at script thread op ≡ Some c → IsTrue (is_command c) → length (filter (is_taken_from thread op) j.tree) ≡ 1
  pub entries_once :
      (i thread op : ℕ) (c : Op) → i < slice_count script.machine → op_at script thread op ≡ Some c
      → Makes script j i thread op c (filter (is_made_by thread op) (slice_at j i))
  pub no_others : (i p : ℕ) (e : SliceEntry) → At (slice_at j i) p e → IsSome (op_at script e.thread e.op)
  pub marks :
      (thread op later_thread later_op start stop later_start later_stop : ℕ) (c later : Op)
      → op_at script thread op ≡ Some c → op_at script later_thread later_op ≡ Some later → Precedes script thread op later_thread later_op
      → HasMarks j thread op c start stop → HasMarks j later_thread later_op later later_start later_stop
      → stop ≤ later_start
  pub entries_in_order :
      (i p q : ℕ) (e later : SliceEntry) → At (slice_at j i) p e → At (slice_at j i) q later
      → Precedes script e.thread e.op later.thread later.op
      → p < q
