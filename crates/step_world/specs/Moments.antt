-- What holds of the machine at every moment: its journals are those of a run so far.
-- (For functions and proofs: no promise of the program stands on it.)
use Rattle.std.specs.Prelude.{IsSome, List, None, Option, Some, [], length, ℕ, ◌++◌, ◌+◌, ◌↔◌, ◌∷◌, ◌≡◌, ◌≤◌}
use Rattle.run_law.specs.Growth.{IsKept, AreLegal}
use Rattle.run_law.specs.Jobs.{looks_of}
use Rattle.run_law.specs.Progress.{Progress}
use Rattle.run_law.specs.TreeHistory.{TreeEntryValue}
use Rattle.script_ops.specs.Values.{ScriptValue, op_at}
use Rattle.script_ops.specs.declared.op.Op.{Op}
use Rattle.step_world.specs.Machine.{MachineValue, thread_at}
use Rattle.step_world.specs.declared.thread_state.ThreadState.{ThreadState}
use Rattle.step_world.specs.declared.thread_state.ThreadState.TheVariants.{Ready, Looking, Following, Tagged}

-- ---- the state of the machine

-- a thread's progress
abbrev pub progress_by : ℕ → ThreadState → Progress
progress_by next Ready = record { next = next; made = None; tag = None }
progress_by next (Looking made) = record { next = next; made = Some made; tag = None }
progress_by next (Following made) = record { next = next; made = Some made; tag = None }
progress_by next (Tagged tag) = record { next = next; made = None; tag = Some tag }

-- how far each thread has come
abbrev pub progress_in : MachineValue → ℕ → Progress
progress_in s t = progress_by (thread_at s t).next (thread_at s t).state

-- The tree's history with a command of this thread at its end that is not decided yet, whatever its reply and its counts will
-- be; for a thread at another place it is the tree's history.
abbrev pub WithClaim : List TreeEntryValue → ℕ → ℕ → ThreadState → List TreeEntryValue → Type 0
WithClaim tree t next Ready all = all ≡ tree
WithClaim tree t next (Looking made) all = (h : TreeEntryValue) × (h.thread ≡ t) × (h.op ≡ next) × (all ≡ tree ++ h ∷ [])
WithClaim tree t next (Following made) all = all ≡ tree
WithClaim tree t next (Tagged tag) all = all ≡ tree

-- what the tree's history can be once the present command is decided
abbrev pub CanBe : MachineValue → Option ℕ → List TreeEntryValue → Type 0
CanBe s None all = all ≡ s.journals.tree
CanBe s (Some t) all = WithClaim s.journals.tree t (thread_at s t).next (thread_at s t).state all

-- the thread that holds the tree is the one whose place says so
abbrev pub IsHeldBy : MachineValue → Option ℕ → Type 0
IsHeldBy s holder = (t : ℕ) → IsSome (progress_in s t).made ↔ (holder ≡ Some t)

-- a thread that looks has made no more looks than its command needs
abbrev pub LooksWithin : ScriptValue → MachineValue → Type 0
LooksWithin script s =
    (t made : ℕ) (op : Op) → (thread_at s t).state ≡ Looking made → op_at script t (thread_at s t).next ≡ Some op
    → made ≤ length (looks_of script s.journals.tree (length s.journals.tree) op)

-- a thread whose command was decided has made all its looks
abbrev pub FollowsBehind : ScriptValue → MachineValue → Type 0
FollowsBehind script s =
    (t made k : ℕ) (op : Op) → (thread_at s t).state ≡ Following made → op_at script t (thread_at s t).next ≡ Some op → k + 1 ≡ length s.journals.tree
    → length (looks_of script s.journals.tree k op) ≤ made

-- The journals are those of a run so far: they are legal and, whatever reply the current command gets, true to their ops and in
-- order as far as each thread has come.
pub record IsRunSoFar (script : ScriptValue) (s : MachineValue) : Type 0 where
  pub legal : AreLegal script s.journals
  pub held : IsHeldBy s s.holder
  pub looking : LooksWithin script s
  pub following : FollowsBehind script s
  pub kept : (all : List TreeEntryValue) → CanBe s s.holder all → IsKept script (record { tree = all; slices = s.journals.slices }) (progress_in s) s.phase
