-- How long something holds, epoch by epoch.
use Rattle.std.specs.Prelude.{ℕ, ◌+◌, ◌<◌, ◌≤◌, Bool, not}
use Rattle.std.specs.List.{position_or_len, range_with_len}

-- From the first of these epochs to the last it holds, and after that, where there is one epoch more, it does not.
pub record IsSpan (Holds : ℕ → Type 0) (first most last : ℕ) : Type 0 where
  pub from_first : first ≤ last
  pub to_last : last ≤ most
  pub always : (epoch : ℕ) → first ≤ epoch → epoch ≤ last → Holds epoch
  pub no_longer : last < most → Holds (last + 1) → ⊥

-- the last epoch, of so many more than this one, up to which something that holds in this one goes on without a break, by its test
abbrev pub last_within : (ℕ → Bool) → ℕ → ℕ → ℕ
last_within holds epoch more = epoch + position_or_len (λ later. not (holds later)) (range_with_len (epoch + 1) more)
