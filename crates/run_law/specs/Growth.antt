-- What holds of the journals of a run at every moment, whatever the threads are doing.
use Rattle.std.specs.Prelude.{IsSome, IsTrue, List, None, Some, filter, length, map, take, ℕ, ◌+◌, ◌<◌, ◌≡◌, ◌≤◌}
use Rattle.cache_core.specs.History.{IsLegal}
use Rattle.cache_core.specs.declared.entry.SliceEntry.{SliceEntry}
use Rattle.machine.specs.Maps.{domain_of}
use Rattle.machine.specs.Slices.{slice_count}
use Rattle.machine.specs.declared.parameters.Parameters.{Parameters}
use Rattle.rc_base.specs.declared.names.Tag.{Tag}
use Rattle.run_law.specs.Jobs.{Job, jobs_of, in_slice}
use Rattle.run_law.specs.Journals.{At, JournalsValue, slice_at}
use Rattle.run_law.specs.Looks.{AreMatched}
use Rattle.run_law.specs.Ops.{Precedes, is_command, phase_in}
use Rattle.run_law.specs.Order.{HasMarks, Makes}
use Rattle.run_law.specs.Owed.{paid_by}
use Rattle.run_law.specs.Progress.{Progress, IsUnderWay, HasBegun}
use Rattle.run_law.specs.Slices.{shape_in}
use Rattle.run_law.specs.TreeHistory.{IsLegalTree, TreeEntryValue, tree_after}
use Rattle.run_law.specs.Truth.{AreTrue, is_made_by, is_taken_from}
use Rattle.script_ops.specs.Values.{ScriptValue, op_at, ops_of}
use Rattle.script_ops.specs.declared.op.Op.TheVariants.{Access}
use Rattle.script_ops.specs.declared.op.Op.{Op}
use Rattle.tree_law.specs.Resolving.{resolve}
use Rattle.tree_law.specs.State.{State}

-- the entry is one that pays this job of a thread's next op
pub record PaysJob (t n : ℕ) (job : Job) (e : SliceEntry) : Type 0 where
  pub thread : e.thread ≡ t
  pub op : e.op ≡ n
  pub owed : paid_by e ≡ job.owed

-- the tag that a state of the tree gives at this epoch
abbrev pub tag_of : Parameters → State → ℕ → ℕ → ℕ → Tag
tag_of m s epoch task cpu =
    let owned = resolve m s task cpu in
    record { epoch = epoch; owner = owned.owner; class = owned.class; rmid = owned.rmid; mask = owned.mask; domain = domain_of m cpu }

-- (For proofs.) an epoch at which no thread holds the tree: at most the length of its history, and below that while a command holds
-- it
pub record IsFree (at : ℕ → Progress) (tree : List TreeEntryValue) (epoch : ℕ) : Type 0 where
  pub within : epoch ≤ length tree
  pub before : (t : ℕ) → IsSome (at t).made → epoch < length tree

-- (For proofs.) Every entry is of an op that has begun. One of an op that does not hold the tree has an epoch before the command
-- that does.
pub record AreOfBegun (j : JournalsValue) (at : ℕ → Progress) : Type 0 where
  pub commands : (k : ℕ) (h : TreeEntryValue) → At j.tree k h → HasBegun (at h.thread) h.op
  pub entries : (i p : ℕ) (e : SliceEntry) → At (slice_at j i) p e → HasBegun (at e.thread) e.op
  pub epochs : (i p : ℕ) (e : SliceEntry) → At (slice_at j i) p e → e.epoch ≤ length j.tree
  pub others : (i p : ℕ) (e : SliceEntry) → At (slice_at j i) p e → (IsUnderWay (at e.thread) e.op → ⊥) → IsFree at j.tree e.epoch

-- (For proofs.) At most one thread holds the tree, and its command stands last in the tree's history, and nowhere else.
pub record IsAlone (j : JournalsValue) (at : ℕ → Progress) : Type 0 where
  pub one : (t u : ℕ) → IsSome (at t).made → IsSome (at u).made → t ≡ u
  pub some : (t : ℕ) → IsSome (at t).made → 0 < length j.tree
  pub there : (t k : ℕ) → IsSome (at t).made → k + 1 ≡ length j.tree → (h : TreeEntryValue) × At j.tree k h × IsTrue (is_taken_from t (at t).next h)
  pub last : (t k : ℕ) (h : TreeEntryValue) → IsSome (at t).made → At j.tree k h → IsTrue (is_taken_from t (at t).next h) → k + 1 ≡ length j.tree

-- (For proofs.) The phases before the present one are done, and those after it are not begun.
pub record AreInPhase (script : ScriptValue) (at : ℕ → Progress) (phase : ℕ) : Type 0 where
  pub earlier : (t : ℕ) → phase_in script.phases t < phase → at t ≡ (record { next = length (ops_of script t); made = None; tag = None })
  pub later : (t : ℕ) → phase < phase_in script.phases t → at t ≡ (record { next = 0; made = None; tag = None })

-- ops that come before others in the script happened before them
abbrev pub MarksInOrder : ScriptValue → JournalsValue → Type 0
MarksInOrder script j =
    (thread op later_thread later_op start stop later_start later_stop : ℕ) (c later : Op)
    → op_at script thread op ≡ Some c → op_at script later_thread later_op ≡ Some later → Precedes script thread op later_thread later_op
    → HasMarks j thread op c start stop → HasMarks j later_thread later_op later later_start later_stop
    → stop ≤ later_start

-- (For proofs.) all ops that come before this one ended by this epoch
abbrev pub IsBehindAll : ScriptValue → JournalsValue → ℕ → ℕ → ℕ → Type 0
IsBehindAll script j thread op epoch =
    (earlier_thread earlier_op start stop : ℕ) (c : Op)
    → op_at script earlier_thread earlier_op ≡ Some c → Precedes script earlier_thread earlier_op thread op → HasMarks j earlier_thread earlier_op c start stop
    → stop ≤ epoch

-- entries of ops that come before others stand before theirs
abbrev pub EntriesInOrder : ScriptValue → JournalsValue → Type 0
EntriesInOrder script j =
    (i p q : ℕ) (e later : SliceEntry) → At (slice_at j i) p e → At (slice_at j i) q later
    → Precedes script e.thread e.op later.thread later.op
    → p < q

-- (For proofs.) An entry of an epoch stands after all entries of other commands before that epoch.
abbrev pub BehindCommands : JournalsValue → Type 0
BehindCommands j =
    (i p q k : ℕ) (e earlier : SliceEntry) (command : TreeEntryValue)
    → At (slice_at j i) p e → At (slice_at j i) q earlier → At j.tree k command
    → IsTrue (is_made_by command.thread command.op earlier) → k < e.epoch → (IsTrue (is_made_by command.thread command.op e) → ⊥)
    → q < p

-- (For proofs.) what a tag is: what the tree gives at its epoch, at which no thread holds the tree, after all ops that come before
pub record IsTagOf (script : ScriptValue) (j : JournalsValue) (at : ℕ → Progress) (t task cpu : ℕ) (tag : Tag) : Type 0 where
  pub is : tag ≡ tag_of script.machine (tree_after script (take tag.epoch j.tree)) tag.epoch task cpu
  pub free : IsFree at j.tree tag.epoch
  pub behind : IsBehindAll script j t (at t).next tag.epoch

-- (For proofs.) the command that holds the tree: its entries so far are the first `made` of those it owes, and those of them that
-- go to slice i stand there
abbrev pub HasMade : ScriptValue → JournalsValue → ℕ → ℕ → ℕ → ℕ → Op → ℕ → Type 0
HasMade script j i thread op k c made = map paid_by (filter (is_made_by thread op) (slice_at j i)) ≡ in_slice i (take made (jobs_of script j.tree k c))

-- (For proofs.) Each op that has begun is there once, as far as it has come.
pub record AreInOrderSoFar (script : ScriptValue) (j : JournalsValue) (at : ℕ → Progress) : Type 0 where
  pub commands_once : (t op : ℕ) (c : Op) → op_at script t op ≡ Some c → IsTrue (is_command c) → HasBegun (at t) op → length (filter (is_taken_from t op) j.tree) ≡ 1
  pub entries_once :
      (i t op : ℕ) (c : Op) → i < slice_count script.machine → op_at script t op ≡ Some c → op < (at t).next
      → Makes script j i t op c (filter (is_made_by t op) (slice_at j i))
  pub under_way :
      (i t k made : ℕ) (c : Op) → i < slice_count script.machine → op_at script t (at t).next ≡ Some c → (at t).made ≡ Some made → k + 1 ≡ length j.tree
      → HasMade script j i t (at t).next k c made
  pub commands_hold : (t : ℕ) (c : Op) → op_at script t (at t).next ≡ Some c → IsSome (at t).made → IsTrue (is_command c)
  pub holds_op : (t : ℕ) → IsSome (at t).made → IsSome (op_at script t (at t).next)
  pub no_others : (i p : ℕ) (e : SliceEntry) → At (slice_at j i) p e → IsSome (op_at script e.thread e.op)
  pub marks : MarksInOrder script j
  pub entries_in_order : EntriesInOrder script j

-- (For proofs.) What is kept of the journals at every moment, where the command that holds the tree stands last in the tree's
-- history.
pub record IsKept (script : ScriptValue) (j : JournalsValue) (at : ℕ → Progress) (phase : ℕ) : Type 0 where
  pub in_phase : AreInPhase script at phase
  pub alone : IsAlone j at
  pub of_begun : AreOfBegun j at
  pub tags : (t task cpu addr : ℕ) (tag : Tag) → op_at script t (at t).next ≡ Some (Access task cpu addr) → (at t).tag ≡ Some tag → IsTagOf script j at t task cpu tag
  pub entries_true : AreTrue script j
  pub in_order : AreInOrderSoFar script j at

-- (For proofs.) The histories are legal, and each command that was decided was given what its looks counted.
pub record AreLegal (script : ScriptValue) (j : JournalsValue) : Type 0 where
  pub all_slices : length j.slices ≡ slice_count script.machine
  pub tree_legal : IsLegalTree script j.tree
  pub slices_legal : (i : ℕ) → i < slice_count script.machine → IsLegal (shape_in script.machine i) (slice_at j i)
  pub looks_matched : AreMatched script j
