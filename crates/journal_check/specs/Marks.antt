-- The marks of ops, by a table of when each began, and their order.
-- (For functions and proofs: no promise of the program stands on it.)
use Rattle.std.specs.Prelude.{◌≡◌, ℕ, ◌+◌, ◌<◌, ◌≤◌, ◌⊎◌, List, Some}
use Rattle.lists.specs.Sums.{one_if}
use Rattle.journal_check.specs.Tables.{IsTableOf, number_at, row_of}
use Rattle.run_law.specs.Journals.{At, JournalsValue}
use Rattle.run_law.specs.Ops.{Precedes, is_command, phase_in}
use Rattle.run_law.specs.Order.{HasMarks}
use Rattle.script_ops.specs.Values.{ScriptValue, op_at, ops_of}
use Rattle.script_ops.specs.declared.op.Op.{Op}

-- when an op that began then ended: a command at the epoch after it
abbrev pub stop_of : Op → ℕ → ℕ
stop_of c start = start + one_if (is_command c)

-- each op has just the marks that its number says
pub record AreStarts (script : ScriptValue) (j : JournalsValue) (table : List (List ℕ)) : Type 0 where
  pub table_of : IsTableOf script table
  pub has : (thread op n : ℕ) (c : Op) → op_at script thread op ≡ Some c → number_at table thread op ≡ Some n → HasMarks j thread op c n (stop_of c n)
  pub only : (thread op n start stop : ℕ) (c : Op) → op_at script thread op ≡ Some c → number_at table thread op ≡ Some n → HasMarks j thread op c start stop → (start ≡ n) × (stop ≡ stop_of c n)

-- an op that ended at this mark
pub record EndsAt (script : ScriptValue) (table : List (List ℕ)) (thread op stop : ℕ) : Type 0 where
  pub start : ℕ
  pub command : Op
  pub is : op_at script thread op ≡ Some command
  pub began : number_at table thread op ≡ Some start
  pub ended : stop ≡ stop_of command start

-- ops that come before others ended by the time when those began
abbrev pub StartsInOrder : ScriptValue → List (List ℕ) → Type 0
StartsInOrder script table =
    (thread op later_thread later_op stop start : ℕ)
    → EndsAt script table thread op stop → number_at table later_thread later_op ≡ Some start → Precedes script thread op later_thread later_op
    → stop ≤ start

-- ---- one thread

-- the ops of a thread ended one after the other, and began at or after the barrier
pub record IsThreadInOrder (ops : List Op) (starts : List ℕ) (barrier : ℕ) : Type 0 where
  pub after_barrier : (o n : ℕ) → At starts o n → barrier ≤ n
  pub chain : (o p n m : ℕ) (c : Op) → o < p → At ops o c → At starts o n → At starts p m → stop_of c n ≤ m

-- the same of the first n ops
pub record IsThreadInOrderUpTo (ops : List Op) (starts : List ℕ) (barrier count : ℕ) : Type 0 where
  pub after_barrier : (o n : ℕ) → o < count → At starts o n → barrier ≤ n
  pub chain : (o p n m : ℕ) (c : Op) → o < p → p < count → At ops o c → At starts o n → At starts p m → stop_of c n ≤ m

-- the last mark of the first n ops of a thread and of the barrier
pub record IsThreadEnd (ops : List Op) (starts : List ℕ) (barrier count end : ℕ) : Type 0 where
  pub after_barrier : barrier ≤ end
  pub after_ops : (o n : ℕ) (c : Op) → o < count → At ops o c → At starts o n → stop_of c n ≤ end
  pub there : (end ≡ barrier) ⊎ ((o n : ℕ) × (c : Op) × (o < count) × At ops o c × At starts o n × (end ≡ stop_of c n))

-- ---- threads and phases

-- the last mark of the ops of threads that pass a test, and of the barrier
pub record IsEndOf (script : ScriptValue) (table : List (List ℕ)) (Passes : ℕ → Type 0) (barrier end : ℕ) : Type 0 where
  pub after_barrier : barrier ≤ end
  pub after_ops : (t o stop : ℕ) → Passes t → EndsAt script table t o stop → stop ≤ end
  pub there : (end ≡ barrier) ⊎ ((t o : ℕ) × Passes t × EndsAt script table t o end)

-- a thread of this phase
abbrev pub OfPhase : ScriptValue → ℕ → ℕ → Type 0
OfPhase script phase thread = phase_in script.phases thread ≡ phase

-- a thread of a phase before this one
abbrev pub BeforePhase : ScriptValue → ℕ → ℕ → Type 0
BeforePhase script phase thread = phase_in script.phases thread < phase

-- each thread of a phase is in order
abbrev pub PhaseInOrder : ScriptValue → List (List ℕ) → ℕ → ℕ → Type 0
PhaseInOrder script table phase barrier =
    (thread : ℕ) → OfPhase script phase thread → IsThreadInOrder (ops_of script thread) (row_of table thread) barrier

-- of the threads of the phases before this one, each op began after those that come before it
abbrev pub AreInOrderUpTo : ScriptValue → List (List ℕ) → ℕ → Type 0
AreInOrderUpTo script table phase =
    (thread op later_thread later_op stop start : ℕ)
    → BeforePhase script phase later_thread
    → EndsAt script table thread op stop → number_at table later_thread later_op ≡ Some start → Precedes script thread op later_thread later_op
    → stop ≤ start
