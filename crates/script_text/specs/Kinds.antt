-- The kinds of line, by their first words, and where each may stand.
use Rattle.std.specs.Prelude.{ℕ, Bool, true, false, ◌==◌, List, codes, Option, Some, None, if◌then◌else◌}
use Rattle.std.specs.Option.{option_or}
use Rattle.rc_base.specs.Texts.{is_text}
use Rattle.script_text.specs.declared.kind.LinePosition.{LinePosition}
use Rattle.script_text.specs.declared.kind.LinePosition.TheVariants as places
use Rattle.script_text.specs.declared.kind.Kind.{Kind}
use Rattle.script_text.specs.declared.kind.Kind.TheVariants as kinds
use Rattle.script_text.specs.States.{is_thread}

-- lines that give the script its parts
unfoldable pub part_kind : List ℕ → Option Kind
part_kind word =
    if is_text word (codes "machine") then Some kinds.Machine else
    if is_text word (codes "tasks") then Some kinds.Tasks else
    if is_text word (codes "phase") then Some kinds.Phase else
    if is_text word (codes "order") then Some kinds.Order else
    if is_text word (codes "thread") then Some kinds.Thread else None

-- lines that are commands
unfoldable pub command_kind : List ℕ → Option Kind
command_kind word =
    if is_text word (codes "mkdir") then Some kinds.Mkdir else
    if is_text word (codes "rmdir") then Some kinds.Rmdir else
    if is_text word (codes "write") then Some kinds.Write else
    if is_text word (codes "read") then Some kinds.Read else
    if is_text word (codes "list") then Some kinds.List else
    if is_text word (codes "flush") then Some kinds.Flush else
    if is_text word (codes "tick") then Some kinds.Tick else
    if is_text word (codes "clflush") then Some kinds.Clflush else None

-- lines that are accesses
unfoldable pub access_kind : List ℕ → Option Kind
access_kind word =
    if is_text word (codes "access") then Some kinds.Access else
    if is_text word (codes "sweep") then Some kinds.Sweep else
    if is_text word (codes "touch") then Some kinds.Touch else None

-- the kind of a line that begins with this word
unfoldable pub kind_of : List ℕ → Option Kind
kind_of word = option_or (part_kind word) (option_or (command_kind word) (access_kind word))

-- (For proofs.) the word that a line of a kind begins with
abbrev pub kind_name : Kind → List ℕ
kind_name kinds.Machine = codes "machine"
kind_name kinds.Tasks = codes "tasks"
kind_name kinds.Phase = codes "phase"
kind_name kinds.Order = codes "order"
kind_name kinds.Thread = codes "thread"
kind_name kinds.Mkdir = codes "mkdir"
kind_name kinds.Rmdir = codes "rmdir"
kind_name kinds.Write = codes "write"
kind_name kinds.Read = codes "read"
kind_name kinds.List = codes "list"
kind_name kinds.Flush = codes "flush"
kind_name kinds.Tick = codes "tick"
kind_name kinds.Clflush = codes "clflush"
kind_name kinds.Access = codes "access"
kind_name kinds.Sweep = codes "sweep"
kind_name kinds.Touch = codes "touch"

-- (For proofs.) the only kind whose word can begin with a `t` and this byte
abbrev pub kind_with_t : ℕ → Kind
kind_with_t second =
    if second == 97 then kinds.Tasks else
    if second == 104 then kinds.Thread else
    if second == 105 then kinds.Tick else kinds.Touch

-- (For proofs.) the only kind whose word can begin with these two bytes
abbrev pub kind_with : ℕ → ℕ → Kind
kind_with first second =
    if first == 97 then kinds.Access else
    if first == 109 then (if second == 97 then kinds.Machine else kinds.Mkdir) else
    if first == 114 then (if second == 101 then kinds.Read else kinds.Rmdir) else
    if first == 116 then kind_with_t second else
    if first == 119 then kinds.Write else
    if first == 108 then kinds.List else
    if first == 102 then kinds.Flush else
    if first == 115 then kinds.Sweep else
    if first == 112 then kinds.Phase else
    if first == 99 then kinds.Clflush else kinds.Order

-- Where a line may stand: the machine line first, tasks after it, an order directly after `phase`, a thread in a phase, and
-- an op in a thread.
abbrev pub may_stand : Kind → LinePosition → Bool
may_stand kinds.Machine places.Start = true
may_stand kinds.Machine place = false
may_stand kinds.Tasks places.Head = true
may_stand kinds.Tasks place = false
may_stand kinds.Phase places.Start = false
may_stand kinds.Phase place = true
may_stand kinds.Order places.Opened = true
may_stand kinds.Order place = false
may_stand kinds.Thread places.Opened = true
may_stand kinds.Thread places.Ordered = true
may_stand kinds.Thread places.Thread = true
may_stand kinds.Thread place = false
may_stand kind place = is_thread place
