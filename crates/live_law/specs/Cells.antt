-- What the locks keep: the tree's cell and the slices' cells, by what each has seen.
-- (For functions and proofs: no promise of the program stands on it.)
use Rattle.std.specs.Prelude.{◌≡◌, ℕ, ◌<◌, ◌≤◌, IsTrue, IsSome, List, length, filter, Some}
use Rattle.cache_core.specs.History.{IsLegal}
use Rattle.cache_core.specs.declared.entry.SliceEntry.{SliceEntry}
use Rattle.machine.specs.Slices.{slice_count}
use Rattle.rc_base.specs.Follows.{EachFollows}
use Rattle.run_law.specs.Journals.{At, JournalsValue, slice_at}
use Rattle.run_law.specs.Looks.{AreMatched}
use Rattle.run_law.specs.Owed.{owed_by_command}
use Rattle.run_law.specs.Slices.{shape_in}
use Rattle.run_law.specs.TreeHistory.{IsLegalTree, TreeEntryValue, tree_after}
use Rattle.run_law.specs.Truth.{is_made_by}
use Rattle.script_ops.specs.Values.{ScriptValue, op_at}
use Rattle.script_ops.specs.declared.op.Op.{Op}
use Rattle.tree_law.specs.State.{State}

-- ---- what commands have made

-- the command at position k has made at least as many entries in this list as it owes to slice i
abbrev pub IsMade : ScriptValue → List TreeEntryValue → ℕ → ℕ → List SliceEntry → Type 0
IsMade script tree i k list =
    (h : TreeEntryValue) (c : Op) → At tree k h → op_at script h.thread h.op ≡ Some c
    → length (owed_by_command script tree i k c) ≤ length (filter (is_made_by h.thread h.op) list)

-- each command before this epoch has made what it owes to each slice
abbrev pub AreMade : ScriptValue → JournalsValue → ℕ → Type 0
AreMade script v epoch = (i k : ℕ) → i < slice_count script.machine → k < epoch → IsMade script v.tree i k (slice_at v i)

-- ---- the tree's cell

-- The tree is what its history makes of it, and the history is legal. Each of its commands has made all that it owes, as far as
-- the slices were seen, and was given what its looks counted.
pub record TreeKeeps (script : ScriptValue) (state : State) (v : JournalsValue) : Type 0 where
  pub state_is : state ≡ tree_after script v.tree
  pub legal : IsLegalTree script v.tree
  pub made : AreMade script v (length v.tree)
  pub matched : AreMatched script v

-- ---- a slice's cell

-- An entry that may come after these of slice i, as far as the tree's history was seen: it is of an op of the script, its epoch is
-- one that the tree had, and all other commands before that epoch have made what they owe.
pub record MayStand (script : ScriptValue) (tree : List TreeEntryValue) (i : ℕ) (before : List SliceEntry) (e : SliceEntry) : Type 0 where
  pub known : IsSome (op_at script e.thread e.op)
  pub epoch : e.epoch ≤ length tree
  pub commands :
      (k : ℕ) (h : TreeEntryValue) → k < e.epoch → At tree k h → (IsTrue (is_made_by h.thread h.op e) → ⊥)
      → IsMade script tree i k before

-- the slice's list is legal, and each entry may stand where it does
pub record SliceKeeps (script : ScriptValue) (i : ℕ) (tree : List TreeEntryValue) (list : List SliceEntry) : Type 0 where
  pub legal : IsLegal (shape_in script.machine i) list
  pub stands : EachFollows (MayStand script tree i) list
