-- The texts of the entries of slices.
use Rattle.std.specs.Prelude.{ℕ, Bool, if◌then◌else◌, List, ◌++◌, Option, Some, None, codes, decimal}
use Rattle.cache_core.specs.declared.entry.SliceEntry.{SliceEntry}
use Rattle.cache_core.specs.declared.entry.What.{What}
use Rattle.cache_core.specs.declared.entry.What.TheVariants as whats
use Rattle.machine.specs.Maps.{set_of}
use Rattle.machine.specs.declared.parameters.Parameters.{Parameters}
use Rattle.num_text.specs.Printed.{hexadecimal}
use Rattle.schemata_text.specs.Printed.{mask_digits}

-- ` mask M`, in as many hexadecimal digits as the machine's ways need
abbrev pub mask_text : Parameters → ℕ → List ℕ
mask_text m mask = codes " mask " ++ hexadecimal (mask_digits m.ways) mask

-- whose an access is: `access group G rmid R`
abbrev pub owner_text : ℕ → ℕ → List ℕ
owner_text gid rmid = codes "access" ++ codes " group " ++ decimal gid ++ codes " rmid " ++ decimal rmid

-- the same, and ` mask M`
abbrev pub tag_text : Parameters → ℕ → ℕ → ℕ → List ℕ
tag_text m gid rmid mask = owner_text gid rmid ++ mask_text m mask

-- ` hit way W` or ` fill way W`
abbrev pub way_text : Bool → ℕ → List ℕ
way_text hit way = (if hit then codes " hit way " else codes " fill way ") ++ decimal way

-- where an access was: ` set S line L hit way W`
abbrev pub place_text : Parameters → ℕ → Bool → ℕ → List ℕ
place_text m line hit way = codes " set " ++ decimal (set_of m line) ++ codes " line " ++ decimal line ++ way_text hit way

-- `lock mask M first L`
abbrev pub lock_text : Parameters → ℕ → ℕ → List ℕ
lock_text m mask first_line = codes "lock" ++ mask_text m mask ++ codes " first " ++ decimal first_line

-- `look rmid R lines N`
abbrev pub look_text : ℕ → ℕ → List ℕ
look_text rmid lines = codes "look rmid " ++ decimal rmid ++ codes " lines " ++ decimal lines

-- `drop line L way W`, or `drop line L none`
abbrev pub drop_text : ℕ → Option ℕ → List ℕ
drop_text line (Some way) = codes "drop line " ++ decimal line ++ codes " way " ++ decimal way
drop_text line None = codes "drop line " ++ decimal line ++ codes " none"

-- what happened
abbrev pub what_text : Parameters → What → List ℕ
what_text m (whats.Access hit way owner rmid mask line) = tag_text m owner.0 rmid mask ++ place_text m line hit way
what_text m whats.Raise = codes "raise"
what_text m whats.Flush = codes "flush"
what_text m (whats.Lock mask first_line) = lock_text m mask first_line
what_text m (whats.Look rmid lines) = look_text rmid lines
what_text m (whats.Drop line at) = drop_text line at

-- `P T.O eE `: the position, the thread and the op's number, and the epoch
abbrev pub entry_place : ℕ → SliceEntry → List ℕ
entry_place p e = decimal p ++ codes " " ++ decimal e.thread ++ codes "." ++ decimal e.op ++ codes " e" ++ decimal e.epoch ++ codes " "

-- the same, and what happened
unfoldable pub entry_text : Parameters → ℕ → SliceEntry → List ℕ
entry_text m p e = entry_place p e ++ what_text m e.what

-- the same with a newline: the line of an entry
unfoldable pub entry_line : Parameters → ℕ → SliceEntry → List ℕ
entry_line m p e = entry_text m p e ++ codes "\n"
