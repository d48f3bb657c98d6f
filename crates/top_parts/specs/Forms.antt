-- What the words after the program's name ask for: `step`, `run` or `gen N`, with any of four flags, each at most once, in any order.
use Rattle.std.specs.Prelude.{ℕ, ◌≤◌, Bool, true, false, not, ◌&&◌, ◌||◌, nat_le, if◌then◌else◌, List, [], ◌∷◌, ◌++◌, count_by, filter, codes, string_bytes, String, Option, Some, None, option_map}
use Rattle.std.specs.List.{list_any}
use Rattle.std.specs.Option.{option_and_then}
use Rattle.std.specs.declared.alloc.Global.{Global}
use Rattle.num_text.specs.Numbers.{dec_of}
use Rattle.rc_base.specs.Texts.{is_text}
use Rattle.top_parts.specs.declared.command.Command.{Command}
use Rattle.top_parts.specs.declared.command.Command.TheVariants.{Gen, Run, Step}
use Rattle.top_parts.specs.declared.form.Form.{Form}
use Rattle.report_pieces.specs.declared.flags.Flags.{Flags}
use Rattle.trace_gen.specs.declared.making.TheConstants.{MOST_THREAD_ACCESSES}

-- ---- flags

-- the word is this text
abbrev pub is_word : List ℕ → String Global → Bool
is_word text word = is_text (string_bytes word) text

-- the word is one of the four flags
abbrev pub is_flag : String Global → Bool
is_flag word = is_word (codes "--journal") word || is_word (codes "--json") word || is_word (codes "--windows") word || is_word (codes "--quiet") word

-- a text stands among words
abbrev pub stands_in : List (String Global) → List ℕ → Bool
stands_in words text = list_any (is_word text) words

-- a text stands among words at most once
unfoldable pub stands_once : List (String Global) → List ℕ → Bool
stands_once words text = nat_le (count_by (is_word text) words) 1

-- each flag stands among words at most once
abbrev pub has_flags_once : List (String Global) → Bool
has_flags_once words = stands_once words (codes "--journal") && stands_once words (codes "--json") && stands_once words (codes "--windows") && stands_once words (codes "--quiet")

-- the flags that stand among words
abbrev pub flags_in : List (String Global) → Flags
flags_in words = record {
  journal = stands_in words (codes "--journal");
  json = stands_in words (codes "--json");
  windows = stands_in words (codes "--windows");
  quiet = stands_in words (codes "--quiet");
}

-- ---- commands

-- a number from 1 to the most of `gen`
abbrev pub in_range : ℕ → Option ℕ
in_range n = if nat_le 1 n && nat_le n MOST_THREAD_ACCESSES then Some n else None

-- the number that a word of decimal digits spells, where `gen` takes it
abbrev pub number_in : String Global → Option ℕ
number_in word = option_and_then in_range (dec_of (string_bytes word))

-- the words that are no flags
abbrev pub others_in : List (String Global) → List (String Global)
others_in words = filter (λ w. not (is_flag w)) words

-- the command that a word names alone: `step` or `run`
abbrev pub bare_command : String Global → Option Command
bare_command first = if is_word (codes "step") first then Some Step else if is_word (codes "run") first then Some Run else None

-- the command that the first word names, with those of the other words that are no flags: `step` and `run` take none, `gen` its number
abbrev pub command_of : String Global → List (String Global) → Option Command
command_of first [] = bare_command first
command_of first (number ∷ []) = if is_word (codes "gen") first then option_map Gen (number_in number) else None
command_of first (number ∷ next ∷ more) = None

-- ---- forms

-- a command with the flags among these words
abbrev pub with_flags : List (String Global) → Command → Form
with_flags words command = record { command = command; flags = flags_in words }

-- the form of a command line, and None where it is not valid
abbrev pub form_of : List (String Global) → Option Form
form_of [] = None
form_of (first ∷ more) = if has_flags_once more then option_map (with_flags more) (command_of first (others_in more)) else None

-- the line for a command line that is not valid
abbrev pub usage_line : List ℕ
usage_line = codes "usage: resctrl_sim step|run|gen N [--journal] [--json] [--windows] [--quiet]" ++ 10 ∷ []

-- ---- the input of a form

-- whether a command plays what the source holds
abbrev pub is_of_source : Command → Bool
is_of_source Step = true
is_of_source Run = true
is_of_source (Gen n) = false

-- (For proofs.) a command whose number, if it has one, is one that the generator takes
abbrev pub IsInRange : Command → Type 0
IsInRange Step = Unit {0}
IsInRange Run = Unit {0}
IsInRange (Gen n) = (1 ≤ n) × (n ≤ MOST_THREAD_ACCESSES)

-- whether a command line has the source read; one that is not valid does not
abbrev pub reads_source : Option Form → Bool
reads_source None = false
reads_source (Some form) = is_of_source form.command
