-- Indices: the places of the groups in the order of their keys.
-- (For functions and proofs: no promise of the program stands on it.)
use Rattle.std.specs.Prelude.{◌≡◌, ◌≢◌, ℕ, ◌+◌, ◌-◌, ◌<◌, Bool, not, ◌&&◌, ◌||◌, ◌==◌, nat_lt, List, length, All, AllPairs, true, if◌then◌else◌}
use Rattle.std.specs.List.{HoldsAt, count_by}
use Rattle.group_tree.specs.declared.group.Group.{Group}
use Rattle.group_tree.specs.declared.index.Entry.{Entry}
use Rattle.group_tree.specs.declared.key.Key.{Key}
use Rattle.group_tree.specs.declared.mode_counts.ModeCounts.{ModeCounts}
use Rattle.group_tree.specs.Counts.{IsCountedTree}
use Rattle.group_tree.specs.Keys.{by_directory, by_gid, is_below, is_key}

-- whether an entry comes before another: by their keys, and where these are the same, by their places
abbrev pub precedes : Entry → Entry → Bool
precedes a b = is_below a.key b.key || (is_key a.key b.key && nat_lt a.place b.place)

-- whether an entry may stand before another
abbrev pub in_order : Entry → Entry → Bool
in_order a b = not (precedes b a)

-- entries that stand in order
abbrev pub AreInOrder : List Entry → Type 0
AreInOrder entries = AllPairs (λ a b. in_order a b ≡ true) entries

-- whether an entry is of this place
abbrev pub is_at : ℕ → Entry → Bool
is_at place e = e.place == place

-- an entry once the group at this place is gone: the later ones stand a place lower
abbrev pub lowered : ℕ → Entry → Entry
lowered place e = record { key = e.key; place = if nat_lt place e.place then e.place - 1 else e.place }

-- an entry is of a group, and has its key
pub record IsEntryOf (key_of : Group → Key) (groups : List Group) (e : Entry) : Type 0 where
  pub within : e.place < length groups
  pub key : HoldsAt (λ g. key_of g ≡ e.key) groups e.place

-- an index by these keys: an entry for each group, in order
pub record IsIndex (key_of : Group → Key) (groups : List Group) (entries : List Entry) : Type 0 where
  pub size : length entries ≡ length groups
  pub rising : AreInOrder entries
  pub right : All (IsEntryOf key_of groups) entries
  pub once : (place : ℕ) → place < length groups → count_by (is_at place) entries ≡ 1

-- the same, but for the group at one place
pub record IsIndexBut (gap : ℕ) (key_of : Group → Key) (groups : List Group) (entries : List Entry) : Type 0 where
  pub within : gap < length groups
  pub size : length entries + 1 ≡ length groups
  pub rising : AreInOrder entries
  pub right : All (IsEntryOf key_of groups) entries
  pub apart : All (λ e. e.place ≢ gap) entries
  pub once : (place : ℕ) → place < length groups → place ≢ gap → count_by (is_at place) entries ≡ 1

-- the groups of a tree, their counts, and their indices by gid and by directory
pub record IsIndexedTree (groups : List Group) (gids names : List Entry) (domains : List ModeCounts) : Type 0 where
  pub counted : IsCountedTree groups domains
  pub by_gids : IsIndex by_gid groups gids
  pub by_names : IsIndex by_directory groups names
