-- What the answer of a step says: which step of the machine the thread took, or why it took none.
-- (For functions and proofs: no promise of the program stands on it.)
use Rattle.std.specs.Prelude.{◌≡◌, ℕ, ◌<◌, ◌≤◌, Bool, true, false, length, Some, None}
use Rattle.cache_core.specs.declared.entry.What.{What}
use Rattle.cache_core.specs.declared.entry.What.TheVariants as whats
use Rattle.cache_core.specs.declared.touched.Touched.{Touched}
use Rattle.cache_core.specs.declared.touched.Touched.TheVariants.{Hit, Filled, Stale}
use Rattle.rc_base.specs.declared.names.Tag.{Tag}
use Rattle.rc_base.specs.declared.replies.Reply.{Reply}
use Rattle.run_law.specs.Jobs.{looks_of}
use Rattle.run_law.specs.Ops.{is_command, phase_in}
use Rattle.script_ops.specs.Values.{ScriptValue, op_at}
use Rattle.script_ops.specs.declared.op.Op.{Op}
use Rattle.script_ops.specs.declared.op.Op.TheVariants as ops
use Rattle.step_world.specs.Machine.{Decides, Follows, Looks, MachineValue, Tags, TagsAgain, Takes, Touches, floor_for, thread_at}
use Rattle.step_world.specs.declared.action.Action.{Action}
use Rattle.step_world.specs.declared.action.Action.TheVariants as actions
use Rattle.step_world.specs.declared.action.Stepped.{Stepped}
use Rattle.step_world.specs.declared.action.Stepped.TheVariants.{Did, Blocked, Ended}
use Rattle.step_world.specs.declared.thread_state.ThreadState.TheVariants.{Ready, Looking, Following, Tagged}

-- ---- why a thread does no step

-- the thread is of the present phase, and this is its next op
pub record HasNext (script : ScriptValue) (s : MachineValue) (t : ℕ) (op : Op) : Type 0 where
  pub present : phase_in script.phases t ≡ s.phase
  pub is : op_at script t (thread_at s t).next ≡ Some op

-- the thread is of another phase, or its ops are done
abbrev pub IsAtEnd : ScriptValue → MachineValue → ℕ → Type 0
IsAtEnd script s t = phase_in script.phases t ≡ s.phase → op_at script t (thread_at s t).next ≡ None

-- the next step of the thread is to take the tree or to read a tag, and another thread holds the tree
pub record IsBlocked (script : ScriptValue) (s : MachineValue) (t : ℕ) : Type 0 where
  pub op : Op
  pub next : HasNext script s t op
  pub place : (thread_at s t).state ≡ Ready
  pub holder : ℕ
  pub held : s.holder ≡ Some holder

-- ---- the steps

-- an entry is a look that counted these lines
abbrev pub Counts : ℕ → What → Type 0
Counts lines what = (rmid : ℕ) × (what ≡ whats.Look rmid lines)

-- an entry is an access that hit or filled this way
abbrev pub Uses : Bool → ℕ → What → Type 0
Uses hit way what = (owner : _) × (rmid mask line : ℕ) × (what ≡ whats.Access hit way owner rmid mask line)

-- the thread took the tree
pub record HasTaken (t : ℕ) (op : Op) (old new : MachineValue) : Type 0 where
  pub command : is_command op ≡ true
  pub place : (thread_at old t).state ≡ Ready
  pub free : old.holder ≡ None
  pub row : Takes t old new

-- the thread looked at a slice, and found these lines
pub record HasCounted (script : ScriptValue) (t lines : ℕ) (op : Op) (old new : MachineValue) : Type 0 where
  pub made : ℕ
  pub place : (thread_at old t).state ≡ Looking made
  pub row : Looks script t made op old new
  pub counts : Counts lines row.makes.entry.what

-- all looks of its command were made, and the command was decided, with this reply
pub record HasDecided (script : ScriptValue) (t : ℕ) (reply : Reply) (op : Op) (old new : MachineValue) : Type 0 where
  pub made : ℕ
  pub place : (thread_at old t).state ≡ Looking made
  pub looked : length (looks_of script old.journals.tree (length old.journals.tree) op) ≤ made
  pub row : Decides script t made op old new
  pub told : row.entry.reply ≡ reply

-- a follow-up of its command was done in one slice
pub record HasDone (script : ScriptValue) (t : ℕ) (op : Op) (old new : MachineValue) : Type 0 where
  pub made : ℕ
  pub place : (thread_at old t).state ≡ Following made
  pub row : Follows script t made op old new

-- an access of the thread read a tag of this epoch
pub record HasTagged (script : ScriptValue) (t epoch : ℕ) (op : Op) (old new : MachineValue) : Type 0 where
  pub task : ℕ
  pub cpu : ℕ
  pub addr : ℕ
  pub access : op ≡ ops.Access task cpu addr
  pub place : (thread_at old t).state ≡ Ready
  pub free : old.holder ≡ None
  pub row : Tags script t task cpu old new
  pub told : epoch ≡ length old.journals.tree

-- the tag of its access is no older than the floor of the slice, and the access hit or filled a way
pub record HasUsed (script : ScriptValue) (t : ℕ) (hit : Bool) (way : ℕ) (op : Op) (old new : MachineValue) : Type 0 where
  pub tag : Tag
  pub task : ℕ
  pub cpu : ℕ
  pub addr : ℕ
  pub access : op ≡ ops.Access task cpu addr
  pub place : (thread_at old t).state ≡ Tagged tag
  pub fresh : floor_for script old tag addr ≤ tag.epoch
  pub row : Touches script t tag task cpu addr old new
  pub uses : Uses hit way row.entry.what

-- the tag of its access is older than the floor of the slice
pub record HasStaleTag (script : ScriptValue) (t floor : ℕ) (op : Op) (old new : MachineValue) : Type 0 where
  pub tag : Tag
  pub task : ℕ
  pub cpu : ℕ
  pub addr : ℕ
  pub access : op ≡ ops.Access task cpu addr
  pub place : (thread_at old t).state ≡ Tagged tag
  pub row : TagsAgain t old new
  pub told : floor ≡ floor_for script old tag addr
  pub below : tag.epoch < floor

-- what came of a touch
abbrev pub HasTouched : ScriptValue → ℕ → Touched → Op → MachineValue → MachineValue → Type 0
HasTouched script t (Hit way) op old new = HasUsed script t true way op old new
HasTouched script t (Filled way) op old new = HasUsed script t false way op old new
HasTouched script t (Stale floor) op old new = HasStaleTag script t floor op old new

-- the step that a thread took
abbrev pub Does : ScriptValue → ℕ → Action → Op → MachineValue → MachineValue → Type 0
Does script t actions.Took op old new = HasTaken t op old new
Does script t (actions.Looked lines) op old new = HasCounted script t lines op old new
Does script t (actions.Decided reply) op old new = HasDecided script t reply op old new
Does script t actions.Followed op old new = HasDone script t op old new
Does script t (actions.Tagged epoch) op old new = HasTagged script t epoch op old new
Does script t (actions.Touched touched) op old new = HasTouched script t touched op old new

-- what the answer of a step says
abbrev pub Answers : ScriptValue → ℕ → Stepped → MachineValue → MachineValue → Type 0
Answers script t (Did action) old new = (op : Op) × HasNext script old t op × Does script t action op old new
Answers script t Blocked old new = IsBlocked script old t × (new ≡ old)
Answers script t Ended old new = IsAtEnd script old t × (new ≡ old)
