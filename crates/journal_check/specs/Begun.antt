-- When ops began, as far as a walk through the journals has come.
-- (For functions and proofs: no promise of the program stands on it.)
use Rattle.std.specs.Prelude.{◌≡◌, ℕ, ◌<◌, ◌⊎◌, IsTrue, List, Some, false}
use Rattle.cache_core.specs.declared.entry.SliceEntry.{SliceEntry}
use Rattle.journal_check.specs.Tables.{number_at}
use Rattle.run_law.specs.Journals.{At, JournalsValue, slice_at}
use Rattle.run_law.specs.Ops.{is_command}
use Rattle.run_law.specs.Truth.{is_made_by, is_taken_from}
use Rattle.run_law.specs.TreeHistory.{TreeEntryValue}
use Rattle.script_ops.specs.Values.{ScriptValue, op_at}
use Rattle.script_ops.specs.declared.op.Op.{Op}

-- an entry of the slices before slice i, or of the first n of slice i
abbrev pub IsSeen : ℕ → ℕ → ℕ → ℕ → Type 0
IsSeen i n a p = (a < i) ⊎ ((a ≡ i) × (p < n))

-- The number of each of the first commands is its position, and that of each access with an entry among those seen is the entry's epoch.
pub record AreBegun (script : ScriptValue) (j : JournalsValue) (commands i n : ℕ) (table : List (List ℕ)) : Type 0 where
  pub taken : (t o k m : ℕ) (h : TreeEntryValue) → k < commands → At j.tree k h → IsTrue (is_taken_from t o h) → number_at table t o ≡ Some m → m ≡ k
  pub made :
      (t o a p m : ℕ) (e : SliceEntry) (c : Op) → IsSeen i n a p → At (slice_at j a) p e → IsTrue (is_made_by t o e)
      → op_at script t o ≡ Some c → is_command c ≡ false → number_at table t o ≡ Some m → m ≡ e.epoch
