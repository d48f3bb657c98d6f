-- The kinds of lines, by their first words, and where each may stand.
use Rattle.std.specs.Prelude.{ℕ, Bool, true, false, not, List, codes, Option, Some, None, if◌then◌else◌}
use Rattle.std.specs.Option.{option_or}
use Rattle.pair_text.specs.declared.kind.Kind.{Kind}
use Rattle.pair_text.specs.declared.kind.Kind.TheVariants as kinds
use Rattle.pair_text.specs.declared.kind.PairKind.{PairKind}
use Rattle.pair_text.specs.declared.kind.PairKind.TheVariants.{Cdp, Levels}
use Rattle.pair_text.specs.declared.kind.Place.{Place}
use Rattle.pair_text.specs.declared.kind.Place.TheVariants as places
use Rattle.rc_base.specs.Texts.{is_text}

-- the lines that both kinds of script have
abbrev pub any_kind : List ℕ → Option Kind
any_kind word =
    if is_text word (codes "machine") then Some kinds.Machine else
    if is_text word (codes "tasks") then Some kinds.Tasks else
    if is_text word (codes "mkdir") then Some kinds.Mkdir else
    if is_text word (codes "rmdir") then Some kinds.Rmdir else
    if is_text word (codes "write") then Some kinds.Write else
    if is_text word (codes "read") then Some kinds.Read else
    if is_text word (codes "flush") then Some kinds.Flush else None

-- the lines of uses that a kind of script has
abbrev pub use_kind : PairKind → List ℕ → Option Kind
use_kind Cdp word = if is_text word (codes "trace") then Some kinds.Trace else None
use_kind Levels word = if is_text word (codes "access") then Some kinds.Access else if is_text word (codes "sweep") then Some kinds.Sweep else None

-- the kind of a line that begins with this word
unfoldable pub pair_kind_of : PairKind → List ℕ → Option Kind
pair_kind_of kind word = option_or (any_kind word) (use_kind kind word)

-- before the machine line
abbrev pub is_start : Place → Bool
is_start places.Start = true
is_start place = false

-- the machine line stands first, and tasks directly after it
abbrev pub may_stand : Kind → Place → Bool
may_stand kinds.Machine places.Start = true
may_stand kinds.Machine place = false
may_stand kinds.Tasks places.Head = true
may_stand kinds.Tasks place = false
may_stand kind place = not (is_start place)
