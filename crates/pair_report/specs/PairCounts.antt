-- Counts over the entries of several caches, and their text.
use Rattle.std.specs.Prelude.{ℕ, ◌*◌, Bool, not, ◌&&◌, count_by, List, ◌++◌, length, codes, decimal}
use Rattle.cache_core.specs.History.{shape_of, valid_of}
use Rattle.cache_core.specs.declared.entry.SliceEntry.{SliceEntry}
use Rattle.cache_core.specs.declared.entry.What.{What}
use Rattle.lists.specs.Sums.{sum_below}
use Rattle.machine.specs.declared.parameters.Parameters.{Parameters}
use Rattle.pair_law.specs.Entries.{slice_in}
use Rattle.rc_base.specs.declared.replies.Reply.{Reply}
use Rattle.cache_core.specs.Whats.{is_access_of, is_hit}
use Rattle.run_counts.specs.Refusals.{is_refusal}
use Rattle.run_counts.specs.declared.counts.Counts.{Counts}

-- how many entries of these caches pass a test
abbrev pub count_in : List (List SliceEntry) → (What → Bool) → ℕ
count_in caches p = sum_below (length caches) (λ i. count_by (λ (e : SliceEntry). p e.what) (slice_in caches i))

-- `accesses A hits H misses M` of an owner
abbrev pub owner_counts : List (List SliceEntry) → ℕ → List ℕ
owner_counts caches owner =
    codes "accesses " ++ decimal (count_in caches (is_access_of owner)) ++ codes " hits " ++ decimal (count_in caches (λ what. is_access_of owner what && is_hit what))
    ++ codes " misses " ++ decimal (count_in caches (λ what. is_access_of owner what && not (is_hit what)))

-- `domain D: valid V of C`, where so many lines are valid in a cache of this size
abbrev pub domain_told : Parameters → ℕ → ℕ → List ℕ
domain_told m domain valid = codes "domain " ++ decimal domain ++ codes ": valid " ++ decimal valid ++ codes " of " ++ decimal (m.sets * m.ways) ++ codes "\n"

-- `domain D: valid V of C`: how many lines are valid at the end in the domain's cache, and how many there can be in a cache of this size
abbrev pub domain_line : Parameters → List (List SliceEntry) → ℕ → List ℕ
domain_line m caches domain = domain_told m domain (valid_of (shape_of m 0) (slice_in caches domain))

-- `total: commands N refused R`
abbrev pub total_line : List Reply → List ℕ
total_line replies = codes "total: commands " ++ decimal (length replies) ++ codes " refused " ++ decimal (count_by is_refusal replies) ++ codes "\n"

-- (For proofs.) these counts: `accesses A hits H misses M`
abbrev pub counts_told : Counts → List ℕ
counts_told c = codes "accesses " ++ decimal c.accesses ++ codes " hits " ++ decimal c.hits ++ codes " misses " ++ decimal c.misses

-- (For proofs.) the counts of a group on its two sides, each after a word, and the end of the line
abbrev pub sides_told : List ℕ → Counts → List ℕ → Counts → List ℕ
sides_told first one second other = first ++ counts_told one ++ second ++ counts_told other ++ codes "\n"
