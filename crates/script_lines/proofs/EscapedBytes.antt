-- A text whose escapes are read, byte by byte.
use Rattle.std.proofs.Common.{◌≡◌, ℕ, ◌==◌, ◌++◌, false, List, [], ◌∷◌, Some, refl, ap}
use Rattle.std.specs.Option.{option_map}
use Rattle.std.proofs.lemmas.List.{append-nil}
use Rattle.script_lines.specs.Escapes.{unescaped}

-- a byte that is no backslash
pub unescaped-plain : (b : ℕ) (rest : List ℕ) → (b == 92) ≡ false → unescaped (b ∷ rest) ≡ option_map (λ bytes. b ∷ bytes) (unescaped rest)
unfolding unescaped
unescaped-plain b [] h = rw h refl
unescaped-plain b (c ∷ rest) h = rw h refl

-- the end of the text
pub option_map-unescaped_nil : (bytes left : List ℕ) → left ≡ [] → option_map (λ rest. bytes ++ rest) (unescaped left) ≡ Some bytes
unfolding unescaped
option_map-unescaped_nil bytes left e = rw e (ap (λ (xs : List ℕ). Some xs) (append-nil bytes))

pub ruleset plain_bytes = (unescaped-plain)
