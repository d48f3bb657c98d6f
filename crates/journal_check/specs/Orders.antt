-- Entries of a slice in the order of their ops, and how far a walk through them has come.
-- (For functions and proofs: no promise of the program stands on it.)
use Rattle.std.specs.Prelude.{◌≡◌, ℕ, ◌<◌, ◌≤◌, ◌⊎◌, IsSome, List, slice_index}
use Rattle.cache_core.specs.declared.entry.SliceEntry.{SliceEntry}
use Rattle.run_law.specs.Journals.{At}
use Rattle.run_law.specs.Ops.{Precedes, phase_in}
use Rattle.script_ops.specs.Values.{ScriptValue, op_at}

-- entries of ops that come before others stand before theirs
abbrev pub AreOrdered : ScriptValue → List SliceEntry → Type 0
AreOrdered script entries =
    (p q : ℕ) (e later : SliceEntry) → At entries p e → At entries q later → Precedes script e.thread e.op later.thread later.op → p < q

-- each entry is of an op of the script
abbrev pub AreOfOps : ScriptValue → List SliceEntry → Type 0
AreOfOps script entries = (p : ℕ) (e : SliceEntry) → At entries p e → IsSome (op_at script e.thread e.op)

-- Of the first entries, n of them, all are in order. The last of them is of this phase, and the last of each thread of this op.
pub record HasPassed (script : ScriptValue) (entries : List SliceEntry) (n phase : ℕ) (last : List ℕ) : Type 0 where
  pub ordered : (p q : ℕ) (e later : SliceEntry) → p < n → q < n → At entries p e → At entries q later → Precedes script e.thread e.op later.thread later.op → p < q
  pub phases : (p : ℕ) (e : SliceEntry) → p < n → At entries p e → phase_in script.phases e.thread ≤ phase
  pub ops : (p : ℕ) (e : SliceEntry) → p < n → At entries p e → e.op ≤ slice_index last e.thread
  pub of_phase : (phase ≡ 0) ⊎ ((p : ℕ) × (e : SliceEntry) × (p < n) × At entries p e × (phase_in script.phases e.thread ≡ phase))
  pub of_op : (t : ℕ) → (slice_index last t ≡ 0) ⊎ ((p : ℕ) × (e : SliceEntry) × (p < n) × At entries p e × (e.thread ≡ t) × (e.op ≡ slice_index last t))
