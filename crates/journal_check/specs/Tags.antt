-- What the tree gives to an access.
-- (For functions and proofs: no promise of the program stands on it.)
use Rattle.std.specs.Prelude.{◌≡◌, ℕ, false}
use Rattle.cache_core.specs.declared.entry.What.{What}
use Rattle.cache_core.specs.declared.entry.What.TheVariants as whats
use Rattle.machine.specs.Maps.{line_of}
use Rattle.machine.specs.declared.parameters.Parameters.{Parameters}
use Rattle.rc_base.specs.declared.names.Tag.{Tag}
use Rattle.run_law.specs.Ops.{ByKind}
use Rattle.run_law.specs.Owed.{undecided}
use Rattle.script_ops.specs.declared.op.Op.{Op}
use Rattle.tree_law.specs.Resolving.{resolve}
use Rattle.tree_law.specs.State.{State}

-- an access to the line of an address, with what a state gives to a task and a CPU
abbrev pub access_of : Parameters → State → ℕ → ℕ → ℕ → What
access_of m s task cpu addr = let owned = resolve m s task cpu in whats.Access false 0 owned.owner owned.rmid owned.mask (line_of addr)

-- this is what a state gives to an op, if it is an access
abbrev pub IsTagOf : Parameters → State → Op → What → Type 0
IsTagOf m s op what = ByKind (λ task cpu addr. undecided what ≡ access_of m s task cpu addr) (Unit {0}) op

-- the tag has what a state gives to a task and a CPU
pub record IsTagFor (m : Parameters) (s : State) (task cpu : ℕ) (tag : Tag) : Type 0 where
  pub owner : tag.owner ≡ (resolve m s task cpu).owner
  pub rmid : tag.rmid ≡ (resolve m s task cpu).rmid
  pub mask : tag.mask ≡ (resolve m s task cpu).mask
