-- What the words after the program's name ask for: `order`, or `report` with flags.
use Rattle.std.specs.Prelude.{ℕ, Bool, ◌&&◌, if◌then◌else◌, is_some, List, [], ◌∷◌, ◌++◌, codes, string_bytes, String, Option, Some, None, option_map}
use Rattle.std.specs.List.{list_all}
use Rattle.std.specs.declared.alloc.Global.{Global}
use Rattle.rc_base.specs.Texts.{is_text}
use Rattle.replay_top.specs.declared.form.ReplayForm.{ReplayForm}
use Rattle.replay_top.specs.declared.form.ReplayForm.TheVariants.{Order, Report}
use Rattle.report_pieces.specs.declared.flags.Flags.{Flags}
use Rattle.top_parts.specs.Forms.{flags_in, has_flags_once, is_flag}

-- the flags that these words are: those of the simulator, each at most once; None where there is another word
abbrev pub flags_of : List (String Global) → Option Flags
flags_of words = if list_all is_flag words && has_flags_once words then Some (flags_in words) else None

-- what `report` asks for with these words after it
abbrev pub report_of : String Global → List (String Global) → Option ReplayForm
report_of word more = if is_text (string_bytes word) (codes "report") then option_map Report (flags_of more) else None

-- what a command line asks for, and None where it is not valid: `order` has no other words
abbrev pub form_of : List (String Global) → Option ReplayForm
form_of [] = None
form_of (word ∷ []) = if is_text (string_bytes word) (codes "order") then Some Order else report_of word []
form_of (word ∷ next ∷ more) = report_of word (next ∷ more)

-- the command line is valid
abbrev pub is_valid : List (String Global) → Bool
is_valid words = is_some (form_of words)

-- the line for a command line that is not valid
abbrev pub usage_line : List ℕ
usage_line = codes "usage: resctrl_replay order | report [--journal] [--json] [--windows] [--quiet]" ++ 10 ∷ []
