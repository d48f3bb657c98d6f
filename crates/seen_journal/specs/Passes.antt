-- A pass, as contracts see it, and what it has seen of its journal.
-- (For functions and proofs: no promise of the program stands on it.)
use Rattle.std.specs.Prelude.{◌≡◌, ℕ, ◌<◌, ◌==◌, List, [], slice_index_or, count_by}
use Rattle.seen_journal.specs.Entries.{entries_of}
use Rattle.seen_journal.specs.Journals.{JournalName}
use Rattle.seen_journal.specs.Prefixes.{IsPrefix}

-- its journal's name, its number, and the list that it has seen
pub record PassValue (E : Type 0) : Type 0 where
  pub name : JournalName
  pub number : ℕ
  pub seen : List (ℕ × E)

module _ {E : Type 0} where
  -- how many entries it may add
  abbrev pub quota_of : PassValue E → ℕ
  quota_of p = slice_index_or p.name.quotas p.number 0

  -- its own entries, in order
  abbrev pub own_entries : PassValue E → List E
  own_entries p = entries_of p.number p.seen

  -- one that has seen nothing
  abbrev pub new_pass : JournalName → ℕ → PassValue E
  new_pass name n = record { name = name; number = n; seen = [] }

  -- it has now seen this list, of which its earlier one is the beginning, and has added nothing
  pub record HasSeen (old new : PassValue E) (seen : List (ℕ × E)) : Type 0 where
    pub name : new.name ≡ old.name
    pub number : new.number ≡ old.number
    pub seen_are : new.seen ≡ seen
    pub prefix : IsPrefix old.seen new.seen
    pub own_are : own_entries new ≡ own_entries old

  -- Each pass of these quotas is there once. One that may add nothing may be left out.
  abbrev pub EachOnce : List ℕ → List (PassValue E) → Type 0
  EachOnce quotas passes = (i : ℕ) → 0 < slice_index_or quotas i 0 → count_by (λ (p : PassValue E). p.number == i) passes ≡ 1

  -- what it has seen begins the list, which has no other entry of it
  pub record HasAll (all : List (ℕ × E)) (p : PassValue E) : Type 0 where
    pub prefix : IsPrefix p.seen all
    pub own_are : entries_of p.number all ≡ own_entries p
