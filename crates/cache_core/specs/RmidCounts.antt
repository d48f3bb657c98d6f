-- How an access changes the counts of lines.
-- (For functions and proofs: no promise of the program stands on it.)
use Rattle.std.specs.Prelude.{◌≡◌, ℕ, ◌+◌, ◌<◌, ◌==◌, Bool, false, List, length, Option, Some, None, option_map, slice_index}
use Rattle.std.specs.Option.{option_map_or}
use Rattle.cache_core.specs.declared.cached_line.CachedLine.{CachedLine}
use Rattle.cache_core.specs.declared.touched.Touched.{Touched}
use Rattle.cache_core.specs.declared.touched.Touched.TheVariants.{Hit, Filled, Stale}
use Rattle.cache_core.specs.Places.{place_in}
use Rattle.lists.specs.Sums.{one_if}

-- an RMID of which a line is counted
pub record IsCounted (counts : List ℕ) (rmid : ℕ) : Type 0 where
  pub known : rmid < length counts
  pub some : 0 < slice_index counts rmid

-- whether this is the RMID
abbrev pub is_rmid : Option ℕ → ℕ → Bool
is_rmid left rmid = option_map_or (λ (r : ℕ). r == rmid) left false

-- a drop takes one line off the count of its RMID, where a way held the line
abbrev pub Uncounts : List ℕ → List ℕ → List (Option CachedLine) → Option ℕ → Type 0
Uncounts old new set (Some way) = (r : ℕ) → slice_index new r + one_if (is_rmid (option_map (λ (p : CachedLine). p.rmid) (place_in set way)) r) ≡ slice_index old r
Uncounts old new set None = new ≡ old

-- a hit leaves the counts, and a fill counts its line in place of the one that left
abbrev pub Recounts : List ℕ → List ℕ → List (Option CachedLine) → CachedLine → Touched → Type 0
Recounts old new set place (Hit way) = new ≡ old
Recounts old new set place (Filled way) = (r : ℕ) → slice_index new r + one_if (is_rmid (option_map (λ (p : CachedLine). p.rmid) (place_in set way)) r) ≡ slice_index old r + one_if (place.rmid == r)
Recounts old new set place (Stale floor) = ⊥
