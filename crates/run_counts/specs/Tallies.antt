-- The accesses, hits and misses of each group and of all groups.
use Rattle.std.specs.Prelude.{◌≡◌, ℕ, ◌+◌, ◌*◌, ◌^◌, ◌≤◌, Bool, not, ◌==◌, ◌&&◌, if◌then◌else◌, List, count_by, nat_eq, unwrap_or}
use Rattle.std.specs.Map.{lookup}
use Rattle.lists.specs.Sums.{one_if, sum_below}
use Rattle.cache_core.specs.declared.entry.SliceEntry.{SliceEntry}
use Rattle.cache_core.specs.declared.entry.What.{What}
use Rattle.cache_core.specs.declared.entry.What.TheVariants.{Access}
use Rattle.cache_core.specs.Whats.{is_access, is_access_of, is_hit}
use Rattle.run_counts.specs.declared.counts.Counts.{Counts}
use Rattle.run_law.specs.Journals.{JournalsValue, slice_at}

-- (For proofs.) the counts of groups by their gids, and those of all groups together
pub record TallyValue : Type 0 where
  pub groups : List (ℕ × Counts)
  pub all : Counts

-- (For proofs.) consecutive accesses of one group, by its gid
pub record StreakValue : Type 0 where
  pub gid : ℕ
  pub counts : Counts

-- (For proofs.) no access
abbrev pub nothing : Counts
nothing = record { accesses = 0; hits = 0; misses = 0 }

-- (For proofs.) the counts of a group; one that is not listed has none
abbrev pub at : TallyValue → ℕ → Counts
at t gid = unwrap_or (lookup (nat_eq gid) t.groups) nothing

-- (For proofs.) the sums of counts
abbrev pub added : Counts → Counts → Counts
added c d = record { accesses = c.accesses + d.accesses; hits = c.hits + d.hits; misses = c.misses + d.misses }

-- (For proofs.) the counts of a group, with the accesses of a streak that is not in the tally yet
abbrev pub at_with : TallyValue → StreakValue → ℕ → Counts
at_with t s gid = if s.gid == gid then added (at t gid) s.counts else at t gid

-- (For proofs.) the counts of all groups, with the accesses of such a streak
abbrev pub all_with : TallyValue → StreakValue → Counts
all_with t s = added t.all s.counts

-- (For proofs.) one access more
abbrev pub with_access : Bool → Counts → Counts
with_access hit c = record { accesses = c.accesses + 1; hits = c.hits + one_if hit; misses = c.misses + one_if (not hit) }

-- (For proofs.) counts with this entry, where it is an access that passes the test
abbrev pub counted : (What → Bool) → Counts → What → Counts
counted p c (Access hit way owner rmid mask line) = if p (Access hit way owner rmid mask line) then with_access hit c else c
counted p c what = c

-- (For proofs.) counts with the accesses of these entries that pass the test
abbrev pub counted_all : (What → Bool) → Counts → List SliceEntry → Counts
counted_all p c entries = record {
  accesses = c.accesses + count_by (λ (e : SliceEntry). p e.what) entries;
  hits = c.hits + count_by (λ (e : SliceEntry). p e.what && is_hit e.what) entries;
  misses = c.misses + count_by (λ (e : SliceEntry). p e.what && not (is_hit e.what)) entries;
}

-- the accesses in the first slices that pass the test
abbrev pub counted_in : (What → Bool) → JournalsValue → ℕ → Counts
counted_in p j slices = record {
  accesses = sum_below slices (λ i. count_by (λ (e : SliceEntry). p e.what) (slice_at j i));
  hits = sum_below slices (λ i. count_by (λ (e : SliceEntry). p e.what && is_hit e.what) (slice_at j i));
  misses = sum_below slices (λ i. count_by (λ (e : SliceEntry). p e.what && not (is_hit e.what)) (slice_at j i));
}

-- (For proofs.) each of these counts is at most `most`
pub record AreAtMost (most : ℕ) (c : Counts) : Type 0 where
  pub accesses : c.accesses ≤ most
  pub hits : c.hits ≤ most
  pub misses : c.misses ≤ most

-- (For proofs.) all counts of a tally with a streak are at most `most`
pub record IsFewWith (most : ℕ) (t : TallyValue) (s : StreakValue) : Type 0 where
  pub groups : (gid : ℕ) → AreAtMost most (at_with t s gid)
  pub all : AreAtMost most (all_with t s)

-- (For proofs.) a tally with a streak has the accesses in the first slices
pub record HasTallied (j : JournalsValue) (slices : ℕ) (t : TallyValue) (s : StreakValue) : Type 0 where
  pub groups : (gid : ℕ) → at_with t s gid ≡ counted_in (is_access_of gid) j slices
  pub all : all_with t s ≡ counted_in is_access j slices
  pub few : IsFewWith (slices * 2 ^ 58) t s

-- (For proofs.) the accesses of each group and of all in the first slices
pub record IsTallyOf (j : JournalsValue) (slices : ℕ) (t : TallyValue) : Type 0 where
  pub groups : (gid : ℕ) → at t gid ≡ counted_in (is_access_of gid) j slices
  pub all : t.all ≡ counted_in is_access j slices
