-- What the words after the program's name ask for: nothing, or `--quiet`.
use Rattle.std.specs.Prelude.{ℕ, Bool, true, false, if◌then◌else◌, List, [], ◌∷◌, ◌++◌, codes, string_bytes, String, Option, Some, None}
use Rattle.std.specs.declared.alloc.Global.{Global}
use Rattle.pair_text.specs.declared.kind.PairKind.{PairKind}
use Rattle.pair_text.specs.declared.kind.PairKind.TheVariants.{Cdp, Levels}
use Rattle.pair_top.specs.declared.words.Form.{Form}
use Rattle.rc_base.specs.Texts.{is_text}

-- what a command line asks for, and None where it is not valid
abbrev pub form_of : List (String Global) → Option Form
form_of [] = Some (record { quiet = false })
form_of (word ∷ []) = if is_text (string_bytes word) (codes "--quiet") then Some (record { quiet = true }) else None
form_of words = None

-- whether a command line is valid
abbrev pub is_valid : Option Form → Bool
is_valid None = false
is_valid (Some form) = true

-- whether the report leaves out the commands; none is written where a command line is not valid
abbrev pub is_quiet : Option Form → Bool
is_quiet None = false
is_quiet (Some form) = form.quiet

-- the line for a command line that is not valid, by the kind of script that the program plays
abbrev pub usage_line : PairKind → List ℕ
usage_line Cdp = codes "usage: resctrl_cdp [--quiet]" ++ 10 ∷ []
usage_line Levels = codes "usage: resctrl_l2 [--quiet]" ++ 10 ∷ []
