-- Laws of the counts that a command needs.
-- (For functions and proofs: no promise of the program stands on it.)
use Rattle.std.specs.Prelude.{◌≢◌, ℕ, ◌<◌, All, AllPairs}
use Rattle.machine.specs.declared.parameters.Parameters.{Parameters}
use Rattle.path_names.specs.declared.dirs.DirRef.TheVariants.{MonDomain}
use Rattle.path_names.specs.declared.path_ref.PathRef.TheVariants.{File}
use Rattle.script_ops.specs.declared.op.Op.{Op}
use Rattle.script_ops.specs.declared.op.Op.TheVariants as ops
use Rattle.tree_law.specs.Sound.{IsSound}
use Rattle.tree_law.specs.State.{State}
use Rattle.tree_law.specs.Steps.{needs}

-- a read of a file of a domain is of a domain that exists: paths are read with the machine's domains
abbrev pub NamesDomain : Parameters → Op → Type 0
NamesDomain m (ops.Read (File (MonDomain holder domain) kind)) = domain < m.domains
NamesDomain m op = Unit {0}

-- a count that can be made: its domain and its RMID are the machine's
abbrev pub CanLook : Parameters → ℕ × ℕ → Type 0
CanLook m pair = (pair.0 < m.domains) × (pair.1 < m.rmids)

-- in a sound tree the counts that a command needs are of domains and RMIDs of the machine
abbrev pub NeedsExist : Type 0
NeedsExist = (m : Parameters) (s : State) (op : Op) → IsSound m s → NamesDomain m op → All (CanLook m) (needs m s op)

-- and no count is needed twice
abbrev pub NeedsDiffer : Type 0
NeedsDiffer = (m : Parameters) (s : State) (op : Op) → IsSound m s → AllPairs (λ (a b : ℕ × ℕ). a ≢ b) (needs m s op)
