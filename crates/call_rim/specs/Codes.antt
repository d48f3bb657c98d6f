-- The exit status of a program.
use Rattle.std.specs.Prelude.{ℕ}
use Rattle.call_rim.specs.declared.status.Status.{Status}
use Rattle.call_rim.specs.declared.status.Status.TheVariants.{Done, Refused, Usage, ReadFault, WriteFault, NoMemory}

-- the exit status by how the call ended: 0 where it is done
abbrev pub code_of : Status → ℕ
code_of Done = 0
code_of Refused = 1
code_of Usage = 2
code_of ReadFault = 3
code_of WriteFault = 4
code_of NoMemory = 5
