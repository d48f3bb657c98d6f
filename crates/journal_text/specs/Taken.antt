-- Numbers taken from the front of a text.
-- (For functions and proofs: no promise of the program stands on it.)
use Rattle.std.specs.Prelude.{◌≡◌, ℕ, ◌^◌, ◌<◌, Bool, false, ◌==◌, List, [], ◌∷◌, ◌++◌, length}
use Rattle.std.specs.List.{list_any, AllByRecursion}
use Rattle.journal_text.specs.Lines.{fields}

-- whether a byte is a space
abbrev pub is_space : ℕ → Bool
is_space b = b == 32

-- a word, which has no space
abbrev pub IsWord : List ℕ → Type 0
IsWord word = list_any is_space word ≡ false

-- what may stand after a word: nothing, or a space and more
abbrev pub EndsWord : List ℕ → Type 0
EndsWord [] = Unit {0}
EndsWord (b ∷ bs) = b ≡ 32

-- a text is a word and more
pub record IsSplit (word more text : List ℕ) : Type 0 where
  pub same : text ≡ word ++ more
  pub word_has_no_space : IsWord word
  pub word_ends : EndsWord more

-- numbers of 64 bits
abbrev pub AreNumbers : List ℕ → Type 0
AreNumbers numbers = AllByRecursion (λ n. n < 2 ^ 64) numbers

-- a text is these numbers, each after a space, and more
pub record Takes (numbers more text : List ℕ) : Type 0 where
  pub same : text ≡ fields numbers ++ more
  pub fit : AreNumbers numbers
  pub ends : EndsWord more

-- no text of so many numbers and more is this one
abbrev pub TakesNone : ℕ → List ℕ → Type 0
TakesNone count text = (numbers more : List ℕ) → length numbers ≡ count → Takes numbers more text → ⊥

-- this text is not just so many numbers
abbrev pub IsNotJust : ℕ → List ℕ → Type 0
IsNotJust count text = (numbers : List ℕ) → length numbers ≡ count → Takes numbers [] text → ⊥
