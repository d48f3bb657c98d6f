-- An op is an access or a command.
use Rattle.std.proofs.Common.{ℕ}
use Rattle.std.specs.Prelude.{IsTrue}
use Rattle.run_law.specs.Ops.{ByKind, is_command}
use Rattle.script_ops.specs.declared.op.Op.{Op}
use Rattle.script_ops.specs.declared.op.Op.TheVariants.{Access}

-- what is said of an access or of a command, from what was
pub by_kind : (A B : ℕ → ℕ → ℕ → Type 0) (C D : Type 0) (op : Op) → ((task cpu addr : ℕ) → A task cpu addr → B task cpu addr) → (C → D) → ByKind A C op → ByKind B D op
by_kind A B C D (Access task cpu addr) f g h = f task cpu addr h
by_kind A B C D op f g h = g h

-- what follows whichever it is
pub from_kind : (A : ℕ → ℕ → ℕ → Type 0) (C D : Type 0) (op : Op) → ((task cpu addr : ℕ) → A task cpu addr → D) → (C → D) → ByKind A C op → D
from_kind A C D (Access task cpu addr) f g h = f task cpu addr h
from_kind A C D op f g h = g h

-- a command
pub of_command : (A : ℕ → ℕ → ℕ → Type 0) (C : Type 0) (op : Op) → IsTrue (is_command op) → C → ByKind A C op
of_command A C (Access task cpu addr) command h = absurd cc
of_command A C op command h = h
