-- Which ops fit a machine and its tasks.
-- (For functions and proofs: no promise of the program stands on it.)
use Rattle.std.specs.Prelude.{ℕ, ◌<◌, ◌≤◌, ◌^◌, List, length, All, Contains, Some}
use Rattle.machine.specs.declared.parameters.Parameters.{Parameters}
use Rattle.path_names.specs.declared.dirs.DirRef.TheVariants.{MonDomain}
use Rattle.path_names.specs.declared.path_ref.PathRef.TheVariants.{File}
use Rattle.script_ops.specs.declared.limits.TheConstants.{MOST_TEXT_BYTES}
use Rattle.script_ops.specs.declared.op.Op.{Op}
use Rattle.script_ops.specs.declared.op.Op.TheVariants as ops

-- An op fits a machine with these tasks: its task is declared; its CPU exists, and so does the domain that it flushes or whose
-- file it reads; the address that it uses or flushes is below 2 ^ 48; and its text is no longer than a script allows.
abbrev pub Fits : Parameters → List ℕ → Op → Type 0
Fits m tasks (ops.Access task cpu addr) = Contains tasks task × (cpu < m.cpus) × (addr < 2 ^ 48)
Fits m tasks (ops.Touch cpu path task offset) = Contains tasks task × (cpu < m.cpus)
Fits m tasks (ops.Flush (Some domain)) = domain < m.domains
Fits m tasks (ops.DropLine addr) = addr < 2 ^ 48
Fits m tasks (ops.Write path text) = length text ≤ MOST_TEXT_BYTES
Fits m tasks (ops.Read (File (MonDomain holder domain) kind)) = domain < m.domains
Fits m tasks op = Unit {0}

-- each of these ops fits
abbrev pub AreFit : Parameters → List ℕ → List Op → Type 0
AreFit m tasks ops = All (Fits m tasks) ops
