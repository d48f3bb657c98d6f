-- Counts that are reset all at once, and written one by one.
-- (For functions and proofs: no promise of the program stands on it.)
use Rattle.std.specs.Prelude.{◌≡◌, ℕ, ◌+◌, ◌<◌, ◌≤◌, ◌==◌, if◌then◌else◌, List, length, Option, Some, None, option_and_then, slice_get, unwrap_or}
use Rattle.cache_core.specs.RmidCounts.{is_rmid}
use Rattle.lists.specs.Sums.{one_if}
use Rattle.journal_check.specs.declared.rmid_counts.Count.{Count}

-- what contracts see of the counts
pub record CountsValue : Type 0 where
  pub counts : List Count
  pub generation : ℕ
  pub region_lines : ℕ

-- there is a count for each number that an RMID can have, and none of a generation to come
pub record AreCounts (counts : List Count) (generation : ℕ) : Type 0 where
  pub all : length counts ≡ 65536
  pub present : (i : ℕ) (c : Count) → slice_get counts i ≡ Some c → c.generation ≤ generation

-- what was written of a count, where it is of this generation
abbrev pub lines_of_generation : ℕ → Count → Option ℕ
lines_of_generation generation c = if c.generation == generation then Some c.lines else None

-- the count of an RMID
abbrev pub count_at : CountsValue → ℕ → ℕ
count_at v rmid = unwrap_or (option_and_then (lines_of_generation v.generation) (slice_get v.counts rmid)) (if rmid == 0 then v.region_lines else 0)

-- all are 0, and of no generation but the first
abbrev pub AreZero : List Count → Type 0
AreZero counts = (i : ℕ) (c : Count) → slice_get counts i ≡ Some c → (c.generation ≡ 0) × (c.lines ≡ 0)

-- a line of one RMID is counted less, and one of another more
abbrev pub Recounts : CountsValue → CountsValue → Option ℕ → Option ℕ → Type 0
Recounts old new left came = (r : ℕ) → r < 65536 → count_at new r + one_if (is_rmid left r) ≡ count_at old r + one_if (is_rmid came r)
