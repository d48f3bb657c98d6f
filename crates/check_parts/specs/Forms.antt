-- What the words after the program's name ask for: `export step`, `export run` or `check`.
use Rattle.std.specs.Prelude.{ℕ, if◌then◌else◌, List, [], ◌∷◌, ◌++◌, codes, string_bytes, String, Option, Some, None, option_map}
use Rattle.std.specs.declared.alloc.Global.{Global}
use Rattle.rc_base.specs.Texts.{is_text}
use Rattle.check_parts.specs.declared.form.Form.{Form}
use Rattle.check_parts.specs.declared.form.Form.TheVariants.{Check, Export}
use Rattle.check_parts.specs.declared.form.Play.{Play}
use Rattle.check_parts.specs.declared.form.Play.TheVariants.{Run, Step}

-- how a word has a script played
abbrev pub play_in : List ℕ → Option Play
play_in text = if is_text text (codes "step") then Some Step else if is_text text (codes "run") then Some Run else None

-- what a command line asks for, and None where it is not valid
abbrev pub form_of : List (String Global) → Option Form
form_of (command ∷ []) = if is_text (string_bytes command) (codes "check") then Some Check else None
form_of (command ∷ play ∷ []) = if is_text (string_bytes command) (codes "export") then option_map Export (play_in (string_bytes play)) else None
form_of words = None

-- the line for a command line that is not valid
abbrev pub usage_line : List ℕ
usage_line = codes "usage: resctrl_check export step|export run|check" ++ 10 ∷ []
