-- Up to where the accesses of exclusive groups are covered, use by use.
-- (For functions and proofs: no promise of the program stands on it.)
use Rattle.std.specs.Prelude.{◌≡◌, ℕ, ◌-◌, ◌<◌, ◌≤◌, ◌⊎◌, true, ◌==◌, ◌&&◌, List, Some, if◌then◌else◌, length, min, nat_lt, slice_get, slice_index_or}
use Rattle.cache_core.specs.declared.entry.SliceEntry.{SliceEntry}
use Rattle.cache_core.specs.declared.entry.What.{What}
use Rattle.private_lru.specs.Covered.{is_own, loads}
use Rattle.private_lru.specs.Ends.{held_len}
use Rattle.private_lru.specs.Uses.{StandsAt}
use Rattle.private_lru.specs.declared.exclusive_span.ExclusiveSpan.{ExclusiveSpan}
use Rattle.private_lru.specs.declared.uses.LineUse.{LineUse}

-- ---- up to where a group has accesses in its window

-- The position is after each access of the group in its window, and not after another one of the first `count` entries.
pub record IsReach (entries : List SliceEntry) (count : ℕ) (s : ExclusiveSpan) (reach : ℕ) : Type 0 where
  pub most : reach ≤ count
  pub each : (q : ℕ) (e : SliceEntry) → StandsAt entries q e → is_own s.gid.0 e.what ≡ true → q < count → nat_lt q reach ≡ nat_lt q (held_len s.last entries)

-- The same of these groups.
pub record AreReaches (entries : List SliceEntry) (count : ℕ) (stays : List ExclusiveSpan) (reaches : List ℕ) : Type 0 where
  pub same : length reaches ≡ length stays
  pub each : (j : ℕ) (d : ExclusiveSpan) → j < length stays → IsReach entries count (slice_index_or stays j d) (slice_index_or reaches j 0)

-- ---- one use more

-- the end, where a use is the group's and in its window: at most there
abbrev pub cut_by : LineUse → ℕ → ExclusiveSpan → ℕ → ℕ → ℕ
cut_by u at s reach end = if (u.owner.0 == s.gid.0) && nat_lt u.at reach then min end at else end

-- the end with a use more: none is covered, where the opening loaded its line
abbrev pub loaded_by : ℕ → What → LineUse → ExclusiveSpan → ℕ → ℕ → ℕ
loaded_by sets opening u s reach end = if loads sets opening u.line then cut_by u 0 s reach end else end

-- the end with two uses of a line: where they are of two groups, each ends what is covered of the other
abbrev pub shared_by : LineUse → LineUse → ExclusiveSpan → ℕ → ℕ → ℕ
shared_by a b s reach end = if a.owner.0 == b.owner.0 then end else cut_by b a.at s reach (cut_by a b.at s reach end)

-- Each of these ends is changed so.
pub record AreEach (change : ExclusiveSpan → ℕ → ℕ → ℕ) (stays : List ExclusiveSpan) (reaches old new : List ℕ) : Type 0 where
  pub same : length new ≡ length old
  pub each : (j : ℕ) (d : ExclusiveSpan) → j < length stays → slice_index_or new j 0 ≡ change (slice_index_or stays j d) (slice_index_or reaches j 0) (slice_index_or old j 0)

-- ---- the uses so far

-- Among the first `count` uses, those of the line of the last one begin there.
pub record IsStart (uses : List LineUse) (count start : ℕ) : Type 0 where
  pub early : start ≤ count - 1
  pub same : (i : ℕ) (u v : LineUse) → slice_get uses start ≡ Some u → slice_get uses i ≡ Some v → start ≤ i → i < count → (v.line ≡ u.line) × (u.at ≤ v.at)
  pub others : (i : ℕ) (u v : LineUse) → slice_get uses start ≡ Some u → slice_get uses i ≡ Some v → i < start → v.line < u.line

-- the use is the group's, and in its window
abbrev pub IsOwnUse : ExclusiveSpan → ℕ → LineUse → Type 0
IsOwnUse s reach u = (u.owner.0 ≡ s.gid.0) × (u.at < reach)

-- another's use of the same line
abbrev pub IsOtherUse : ExclusiveSpan → LineUse → LineUse → Type 0
IsOtherUse s u v = (v.owner.0 ≡ s.gid.0 → ⊥) × (v.line ≡ u.line)

-- Where a group's covered accesses end, as far as the first `count` uses tell; `none` is the end of all.
pub record IsCut (sets : ℕ) (opening : What) (uses : List LineUse) (count none : ℕ) (s : ExclusiveSpan) (reach end : ℕ) : Type 0 where
  pub loaded : (i : ℕ) (u : LineUse) → slice_get uses i ≡ Some u → i < count → IsOwnUse s reach u → loads sets opening u.line ≡ true → end ≡ 0
  pub before : (i k : ℕ) (u v : LineUse) → slice_get uses i ≡ Some u → slice_get uses k ≡ Some v → i < count → k < count → IsOwnUse s reach u → IsOtherUse s u v → end ≤ v.at
  pub reached :
      (end ≡ none)
      ⊎ ((i : ℕ) × (u : LineUse) × (slice_get uses i ≡ Some u) × IsOwnUse s reach u
      × ((loads sets opening u.line ≡ true) ⊎ ((k : ℕ) × (v : LineUse) × (slice_get uses k ≡ Some v) × IsOtherUse s u v × (end ≡ v.at))))

-- The same of these groups.
pub record AreCuts (sets : ℕ) (opening : What) (uses : List LineUse) (count none : ℕ) (stays : List ExclusiveSpan) (reaches ends : List ℕ) : Type 0 where
  pub same : length ends ≡ length stays
  pub each : (j : ℕ) (d : ExclusiveSpan) → j < length stays → IsCut sets opening uses count none (slice_index_or stays j d) (slice_index_or reaches j 0) (slice_index_or ends j 0)
