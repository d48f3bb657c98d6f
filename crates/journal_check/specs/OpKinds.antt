-- Which ops are accesses.
-- (For functions and proofs: no promise of the program stands on it.)
use Rattle.std.specs.Prelude.{Bool, Option, Some, None, false, not}
use Rattle.run_law.specs.Ops.{is_command}
use Rattle.script_ops.specs.declared.op.Op.{Op}

-- there is an op, and it is an access
abbrev pub is_access_of : Option Op → Bool
is_access_of None = false
is_access_of (Some c) = not (is_command c)
