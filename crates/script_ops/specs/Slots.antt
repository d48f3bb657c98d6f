-- The ops of a thread in their slots: an access in its own, and a command in a list beside them, by its number.
-- (For functions and proofs: no promise of the program stands on it.)
use Rattle.std.specs.Prelude.{ℕ, ◌≡◌, ◌<◌, Bool, true, false, not, List, length, map, filter, All, slice_index_or}
use Rattle.script_ops.specs.declared.op.Op.{Op}
use Rattle.script_ops.specs.declared.op.Op.TheVariants as ops
use Rattle.script_ops.specs.declared.slot.Slot.{Slot}
use Rattle.script_ops.specs.declared.slot.Slot.TheVariants.{Access, Command}

-- whether an op is an access
abbrev pub is_access : Op → Bool
is_access (ops.Access task cpu addr) = true
is_access op = false

-- the commands among ops, in order
abbrev pub commands_in : List Op → List Op
commands_in ops = filter (λ op. not (is_access op)) ops

-- the op in a slot, beside these commands
abbrev pub op_in : List Op → Slot → Op
op_in commands (Access cpu task addr) = ops.Access task cpu addr
op_in commands (Command k) = slice_index_or commands k ops.Tick

-- the ops in slots, one after the other
abbrev pub ops_in : List Op → List Slot → List Op
ops_in commands slots = map (op_in commands) slots

-- the command in a slot is one of so many
abbrev pub IsThere : ℕ → Slot → Type 0
IsThere count (Access cpu task addr) = Unit {0}
IsThere count (Command k) = k < count

-- the command in each slot is there, no command is an access, and each stands in one slot, in order
pub record AreSlots (commands : List Op) (slots : List Slot) : Type 0 where
  pub there : All (IsThere (length commands)) slots
  pub apart : All (λ op. is_access op ≡ false) commands
  pub once : commands_in (ops_in commands slots) ≡ commands
