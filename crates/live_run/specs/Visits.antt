-- What a thread knows when it goes to a slice.
-- (For functions and proofs: no promise of the program stands on it.)
use Rattle.std.specs.Prelude.{◌≡◌, ℕ, ◌+◌, ◌-◌, ◌<◌, ◌≤◌, List, length, IsSome}
use Rattle.step_world.specs.Needs.{CanFollow, CanReach}
use Rattle.live_law.specs.Cells.{AreMade}
use Rattle.live_law.specs.Room.{commands_from, entries_by, slice_quota, tree_quota}
use Rattle.live_run.specs.Names.{SeenValue, history_of, seen_by}
use Rattle.rc_base.specs.declared.names.Tag.{Tag}
use Rattle.run_law.specs.Journals.{At}
use Rattle.run_law.specs.Slices.{shape_in}
use Rattle.run_law.specs.TreeHistory.{TreeEntryValue}
use Rattle.run_law.specs.declared.journals.TreeEntry.{TreeEntry}
use Rattle.script_ops.specs.Values.{ScriptValue, op_at}
use Rattle.seen_journal.specs.Journals.{JournalName, JournalValue}
use Rattle.tree_law.specs.declared.follow.Follow.{Follow}

-- the thread has room for an entry more in slice i
abbrev pub HasRoomIn : ScriptValue → ℕ → SeenValue → Type 0
HasRoomIn script i s = length (entries_by (seen_by s) i s.thread) < slice_quota script i s.thread

-- and for a command more in the tree's history
abbrev pub HasRoomInTree : ScriptValue → SeenValue → Type 0
HasRoomInTree script s = length (commands_from (seen_by s) s.thread) < tree_quota script s.thread

-- the last command of a history is this op
abbrev pub IsLast : ℕ → ℕ → List (ℕ × TreeEntry) → Type 0
IsLast t op seen = (k : ℕ) (h : TreeEntryValue) → k + 1 ≡ length seen → At (history_of seen) k h → (h.thread ≡ t) × (h.op ≡ op)

-- A look of the command that holds the tree.
pub record MayLook (script : ScriptValue) (tree : JournalName) (i op epoch rmid : ℕ) (history : JournalValue TreeEntry) (s : SeenValue) : Type 0 where
  pub name : history.name ≡ tree
  pub whole : s.tree.seen ≡ history.entries
  pub is_epoch : epoch ≡ length history.entries
  pub known : IsSome (op_at script s.thread op)
  pub made : AreMade script (seen_by s) epoch
  pub can : rmid < script.machine.rmids
  pub room : HasRoomIn script i s

-- A follow-up of the command that holds the tree, which is decided.
pub record MayFollow (script : ScriptValue) (tree : JournalName) (i op epoch : ℕ) (f : Follow) (history : JournalValue TreeEntry) (s : SeenValue) : Type 0 where
  pub name : history.name ≡ tree
  pub whole : s.tree.seen ≡ history.entries
  pub is_epoch : epoch ≡ length history.entries
  pub some : 0 < epoch
  pub last : IsLast s.thread op history.entries
  pub known : IsSome (op_at script s.thread op)
  pub made : AreMade script (seen_by s) (epoch - 1)
  pub can : CanFollow (shape_in script.machine i) script.machine.rmids f
  pub room : HasRoomIn script i s

-- An access with its tag.
pub record MayTouch (script : ScriptValue) (i op : ℕ) (tag : Tag) (line : ℕ) (s : SeenValue) : Type 0 where
  pub known : IsSome (op_at script s.thread op)
  pub within : tag.epoch ≤ length s.tree.seen
  pub made : AreMade script (seen_by s) tag.epoch
  pub can : CanReach (shape_in script.machine i) script.machine.rmids tag line
  pub room : HasRoomIn script i s
