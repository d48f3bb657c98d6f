-- The text of a write.
use Rattle.std.specs.Prelude.{◌≡◌, ℕ, ◌==◌, List, [], ◌∷◌, drop, Option, Some, None, Result, Ok, Err, if◌then◌else◌}
use Rattle.std.specs.Option.{option_map}
use Rattle.script_lines.specs.declared.fault.LineError.{LineError}
use Rattle.script_lines.specs.declared.fault.LineError.TheVariants as errors
use Rattle.script_lines.specs.declared.fault.LineFault.TheVariants.{BadEscape}
use Rattle.line_words.specs.Lines.{behind_word}

-- the text with its escapes read: `\n` is a newline and `\\` a backslash, and a backslash stands nowhere else
unfoldable pub unescaped : List ℕ → Option (List ℕ)
unescaped [] = Some []
unescaped (b ∷ []) = if b == 92 then None else Some (b ∷ [])
unescaped (b ∷ c ∷ rest) =
    if b == 92
    then (if c == 110 then option_map (λ bytes. 10 ∷ bytes) (unescaped rest) else
    if c == 92 then option_map (λ bytes. 92 ∷ bytes) (unescaped rest) else None)
    else option_map (λ bytes. b ∷ bytes) (unescaped (c ∷ rest))

-- the text begins after the one blank that follows the path, and ends where the line does
abbrev pub text_behind : List ℕ → List ℕ
text_behind rest = drop 1 (behind_word rest)

-- (For proofs.) The result is this text, or memory ran out. BadEscape says that there is no text.
abbrev pub Unescapes : Result (List ℕ) LineError → Option (List ℕ) → Type 0
Unescapes (Ok bytes) text = text ≡ Some bytes
Unescapes (Err errors.NoMemory) text = Unit {0}
Unescapes (Err (errors.Fault f)) text = (f ≡ BadEscape) × (text ≡ None)
