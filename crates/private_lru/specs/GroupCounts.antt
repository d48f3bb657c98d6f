-- What is counted of a group's accesses.
use Rattle.std.specs.Prelude.{ℕ, ◌+◌, ◌%◌, Bool, false, ◌&&◌, ◌==◌, List, [], ◌∷◌, ◌++◌, count_by}
use Rattle.cache_core.specs.declared.entry.What.{What}
use Rattle.cache_core.specs.declared.entry.What.TheVariants.{Access}
use Rattle.cache_core.specs.declared.entry.SliceEntry.{SliceEntry}
use Rattle.lists.specs.Sums.{one_if}
use Rattle.private_lru.specs.Covered.{covered_front, is_own, items, uses_line}
use Rattle.private_lru.specs.Private.{private_hit}

-- an access of the group that hit
abbrev pub is_own_hit : ℕ → What → Bool
is_own_hit group (Access hit way owner rmid mask line) = (owner.0 == group) && hit
is_own_hit group what = false

-- how many of these entries are accesses of the group
abbrev pub accesses_of : ℕ → List SliceEntry → ℕ
accesses_of group entries = count_by (λ (e : SliceEntry). is_own group e.what) entries

-- how many of these entries are accesses of the group that hit
abbrev pub hits_of_group : ℕ → List SliceEntry → ℕ
hits_of_group group entries = count_by (λ (e : SliceEntry). is_own_hit group e.what) entries

-- an access of the group with these lines that hits in a private cache which has seen the group's earlier items of its set
abbrev pub is_private_hit : ℕ → ℕ → (ℕ → Bool) → ℕ → List SliceEntry → What → Bool
is_private_hit sets group own ways earlier (Access hit way owner rmid mask line) = (owner.0 == group) && private_hit ways (items sets group (line % sets) own earlier) line
is_private_hit sets group own ways earlier what = false

-- how many of these entries are accesses of the group that hit in a private cache which has seen some earlier entries
abbrev pub private_hits_after : ℕ → ℕ → (ℕ → Bool) → ℕ → List SliceEntry → List SliceEntry → ℕ
private_hits_after sets group own ways earlier [] = 0
private_hits_after sets group own ways earlier (e ∷ es) = one_if (is_private_hit sets group own ways earlier e.what) + private_hits_after sets group own ways (earlier ++ e ∷ []) es

-- how many of these entries are accesses of the group that hit in a private cache of so many ways, empty at first
abbrev pub private_hits_of : ℕ → ℕ → (ℕ → Bool) → ℕ → List SliceEntry → ℕ
private_hits_of sets group own ways entries = private_hits_after sets group own ways [] entries

-- how many of the covered accesses of the group hit in a private cache of so many ways
abbrev pub covered_private_hits : ℕ → ℕ → ℕ → What → List SliceEntry → ℕ
covered_private_hits sets group ways opening window = private_hits_of sets group (uses_line group window) ways (covered_front sets group opening window)
