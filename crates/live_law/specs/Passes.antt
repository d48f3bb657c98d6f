-- What a thread's passes keep, by what the thread has seen.
-- (For functions and proofs: no promise of the program stands on it.)
use Rattle.std.specs.Prelude.{◌≡◌, ℕ, ◌<◌, ◌≤◌, length, Some}
use Rattle.cache_core.specs.declared.entry.SliceEntry.{SliceEntry}
use Rattle.run_law.specs.Journals.{At, JournalsValue, slice_at}
use Rattle.run_law.specs.Order.{HasMarks}
use Rattle.run_law.specs.TreeHistory.{TreeEntryValue}
use Rattle.script_ops.specs.Values.{ScriptValue, op_at}
use Rattle.script_ops.specs.declared.op.Op.{Op}
use Rattle.live_law.specs.DoneOps.{AreEnded, HasDone}
use Rattle.live_law.specs.SeenJournals.{HasGrown}

-- all of a thread's commands and entries come after what was seen at a start, and no epoch of theirs is earlier
pub record StandAfter (t : ℕ) (start v : JournalsValue) : Type 0 where
  pub commands : (k : ℕ) (h : TreeEntryValue) → At v.tree k h → h.thread ≡ t → length start.tree ≤ k
  pub entries : (i p : ℕ) (e : SliceEntry) → At (slice_at v i) p e → e.thread ≡ t → length (slice_at start i) ≤ p
  pub epochs : (i p : ℕ) (e : SliceEntry) → At (slice_at v i) p e → e.thread ≡ t → length start.tree ≤ e.epoch

-- a thread's commands are of ops below the first number, and its entries of ops below the second
pub record AreBelow (t taken made : ℕ) (v : JournalsValue) : Type 0 where
  pub commands : (k : ℕ) (h : TreeEntryValue) → At v.tree k h → h.thread ≡ t → h.op < taken
  pub entries : (i p : ℕ) (e : SliceEntry) → At (slice_at v i) p e → e.thread ≡ t → e.op < made

-- each op of a thread happened after its earlier ops, and its entries come after theirs
pub record AreInTurn (script : ScriptValue) (t : ℕ) (v : JournalsValue) : Type 0 where
  pub marks :
      (op later_op start stop later_start later_stop : ℕ) (c later : Op)
      → op_at script t op ≡ Some c → op_at script t later_op ≡ Some later → op < later_op
      → HasMarks v t op c start stop → HasMarks v t later_op later later_start later_stop
      → stop ≤ later_start
  pub entries :
      (i p q : ℕ) (e later : SliceEntry) → At (slice_at v i) p e → At (slice_at v i) q later → e.thread ≡ t → later.thread ≡ t
      → e.op < later.op
      → p < q

-- What a thread has seen since a start: its first n ops are done, its commands are of ops below `taken` and its entries of ops
-- below `made`, all of them come after the start, and each op had its turn.
pub record PassesKeepFrom (script : ScriptValue) (start : JournalsValue) (t n taken made : ℕ) (v : JournalsValue) : Type 0 where
  pub begins : HasGrown start v
  pub after : StandAfter t start v
  pub below : AreBelow t taken made v
  pub done : HasDone script v t n
  pub in_turn : AreInTurn script t v

-- What the passes of a thread keep whose next op is op n: this is kept from a start at which all threads of earlier phases had
-- ended. Before the first op that may still be to come.
pub record PassesKeep (script : ScriptValue) (t n : ℕ) (v : JournalsValue) : Type 0 where
  pub start : JournalsValue
  pub ended : 0 < n → AreEnded script start t
  pub keeps : PassesKeepFrom script start t n n n v
