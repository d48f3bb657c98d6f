-- What an op found by its number is.
-- (For functions and proofs: no promise of the program stands on it.)
use Rattle.script_ops.specs.declared.op.Op.{Op}
use Rattle.script_ops.specs.declared.op_at.Found.{Found}
use Rattle.script_ops.specs.declared.op_at.Found.TheVariants.{Copied, There}

-- the copy, or what stands there
abbrev pub op_of : Found → Op
op_of (Copied op) = op
op_of (There op) = op.now
