-- Flags among the words of a command line.
use Rattle.std.specs.Prelude.{ℕ, Bool, false, if◌then◌else◌, List, [], ◌∷◌, string_bytes, String}
use Rattle.std.specs.declared.alloc.Global.{Global}
use Rattle.rc_base.specs.Texts.{is_text}

-- whether the first of these words is a flag
abbrev pub begins_with : List ℕ → List (String Global) → Bool
begins_with flag [] = false
begins_with flag (word ∷ words) = is_text (string_bytes word) flag

-- the words after a flag, and all of them where the first is not the flag
abbrev pub after_flag : List ℕ → List (String Global) → List (String Global)
after_flag flag [] = []
after_flag flag (word ∷ words) = if is_text (string_bytes word) flag then words else word ∷ words
