-- The exclusive groups of a domain, from the last change back.
-- (For functions and proofs: no promise of the program stands on it.)
use Rattle.std.specs.Prelude.{◌≡◌, ℕ, zero, suc, ◌+◌, ◌-◌, ◌*◌, ◌≤◌, List, [], length, map, slice_get}
use Rattle.std.specs.List.{insert, remove, slice_set}
use Rattle.std.specs.Option.{option_map_or}
use Rattle.private_lru.specs.declared.exclusive_span.ExclusiveSpan.{ExclusiveSpan}
use Rattle.run_law.specs.Journals.{At}
use Rattle.run_windows.specs.Stays.{stay_of}
use Rattle.run_windows.specs.declared.changes.Past.{Past}
use Rattle.run_windows.specs.declared.edit.Edit.{Edit}
use Rattle.run_windows.specs.declared.edit.Edit.TheVariants.{Whole, Put, Insert, Remove}
use Rattle.run_windows.specs.declared.sweep.Sweep.{Sweep}

-- the stays before a change whose last epoch is this one, made of those after it
abbrev pub restored : ℕ → ℕ → Edit → List ExclusiveSpan → List ExclusiveSpan
restored domain last (Whole all) after = map (stay_of domain last after) all.items
restored domain last (Put at group) after = slice_set after at (stay_of domain last after group)
restored domain last (Insert at group) after = insert after at (stay_of domain last after group)
restored domain last (Remove at) after = remove after at

-- the stays from a change on, and the last epoch before it
pub record Swept : Type 0 where
  pub stays : List ExclusiveSpan
  pub last : ℕ

-- one change further back
abbrev pub swept_over : ℕ → Swept → Past → Swept
swept_over domain s p = record { stays = restored domain s.last p.edit s.stays; last = p.from - 1 }

-- after so many of these changes, the last of them first, of a run that ends at this epoch
abbrev pub swept : ℕ → ℕ → List Past → ℕ → Swept
swept domain end pasts zero = record { stays = []; last = end }
swept domain end pasts (suc k) = option_map_or (swept_over domain (swept domain end pasts k)) (slice_get pasts (length pasts - suc k)) (swept domain end pasts k)

-- a sweep stands there
abbrev pub IsSwept : Swept → Sweep → Type 0
IsSwept s sweep = (sweep.stays.items ≡ s.stays) × (sweep.last ≡ s.last)

-- sweeps after the first change that they go over, and after every so many more
pub record AreMarks (domain end step : ℕ) (pasts : List Past) (marks : List Sweep) : Type 0 where
  pub each : (i : ℕ) (m : Sweep) → At marks i m → IsSwept (swept domain end pasts (step * i + 1)) m
  pub all : length pasts ≤ step * length marks
