-- What a step may write.
use Rattle.std.specs.Prelude.{◌≡◌, ◌≢◌, ◌⊎◌, ℕ, List}
use Rattle.shared_parts.specs.Parts.{IsQuiet, Shows, parts_after}
use Rattle.shared_parts.specs.declared.change.Change.{Change}

module _ {E P : Type 0} where
  -- The first word goes from what part 0 shows to what it shows after the event; or the event leaves that, and another word is written.
  abbrev pub IsChange : (P → ℕ) → (E → ℕ → P → P) → E → Change → List (ℕ × P) → Type 0
  IsChange shown after e c xs =
      ((c.word ≡ 0) × Shows shown c.before xs × Shows shown c.after (parts_after after e xs)) ⊎ ((c.word ≢ 0) × IsQuiet shown after e xs)
