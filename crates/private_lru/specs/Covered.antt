-- Who uses which lines in a window of a slice, and which accesses of a group are covered: nobody else has used its lines.
use Rattle.std.specs.Prelude.{ℕ, ◌+◌, ◌*◌, ◌%◌, Bool, true, false, not, ◌&&◌, ◌==◌, nat_le, nat_lt, if◌then◌else◌, List, [], ◌∷◌, ◌++◌, length}
use Rattle.std.specs.List.{list_any, flat_map}
use Rattle.cache_core.specs.declared.entry.What.{What}
use Rattle.cache_core.specs.declared.entry.What.TheVariants.{Access, Lock, Drop}
use Rattle.cache_core.specs.declared.entry.SliceEntry.{SliceEntry}
use Rattle.cbm.specs.Masks.{ways_of}
use Rattle.private_lru.specs.declared.item.Item.{Item}
use Rattle.private_lru.specs.declared.item.Item.TheVariants.{Use, Drop as Dropped}

-- ---- users of lines

-- an access of the group
abbrev pub is_own : ℕ → What → Bool
is_own group (Access hit way owner rmid mask line) = owner.0 == group
is_own group what = false

-- an access of the group to this line
abbrev pub is_use : ℕ → ℕ → What → Bool
is_use group x (Access hit way owner rmid mask line) = (owner.0 == group) && (line == x)
is_use group x what = false

-- whether the group accesses the line somewhere in these entries
abbrev pub uses_line : ℕ → List SliceEntry → ℕ → Bool
uses_line group entries x = list_any (λ (e : SliceEntry). is_use group x e.what) entries

-- whether the lock of a region loads this line: its lines stand one after the other from the first, one for each set and way
abbrev pub loads : ℕ → What → ℕ → Bool
loads sets (Lock mask first_line) x = nat_le first_line x && nat_lt x (first_line + sets * length (ways_of mask))
loads sets what x = false

-- ---- covered accesses

-- an access of the group to a line that the opening of the window loaded
abbrev pub is_loaded_use : ℕ → ℕ → What → What → Bool
is_loaded_use sets group opening (Access hit way owner rmid mask line) = (owner.0 == group) && loads sets opening line
is_loaded_use sets group opening what = false

-- an access of another owner to a line that the group accesses somewhere in the window
abbrev pub is_other_use : ℕ → List SliceEntry → What → Bool
is_other_use group window (Access hit way owner rmid mask line) = not (owner.0 == group) && uses_line group window line
is_other_use group window what = false

-- An access that stands after these entries of the window is covered where no one else has used a line that the group uses in the
-- window: not the lock that opens the window, and no entry among these.
abbrev pub is_covered : ℕ → ℕ → What → List SliceEntry → List SliceEntry → Bool
is_covered sets group opening window earlier =
    not (list_any (λ (e : SliceEntry). is_loaded_use sets group opening e.what) window)
    && not (list_any (λ (e : SliceEntry). is_other_use group window e.what) earlier)

-- the covered accesses of the group among these entries of the window, which stand after some earlier ones
abbrev pub covered_after : ℕ → ℕ → What → List SliceEntry → List SliceEntry → List SliceEntry → List SliceEntry
covered_after sets group opening window earlier [] = []
covered_after sets group opening window earlier (e ∷ es) =
    if is_own group e.what && is_covered sets group opening window earlier
    then e ∷ covered_after sets group opening window (earlier ++ e ∷ []) es
    else covered_after sets group opening window (earlier ++ e ∷ []) es

-- the covered accesses of the group in the window
abbrev pub covered : ℕ → ℕ → What → List SliceEntry → List SliceEntry
covered sets group opening window = covered_after sets group opening window [] window

-- an entry in front of those that are kept after it; it is left out where none is kept after it and it does not count itself
abbrev pub with_front : Bool → SliceEntry → List SliceEntry → List SliceEntry
with_front true e rest = e ∷ rest
with_front false e [] = []
with_front false e (r ∷ rest) = e ∷ r ∷ rest

-- these entries of the window, which stand after some earlier ones, up to the last covered access of the group among them
abbrev pub covered_front_after : ℕ → ℕ → What → List SliceEntry → List SliceEntry → List SliceEntry → List SliceEntry
covered_front_after sets group opening window earlier [] = []
covered_front_after sets group opening window earlier (e ∷ es) =
    with_front (is_own group e.what && is_covered sets group opening window earlier) e (covered_front_after sets group opening window (earlier ++ e ∷ []) es)

-- the entries of the window up to the last covered access of the group
abbrev pub covered_front : ℕ → ℕ → What → List SliceEntry → List SliceEntry
covered_front sets group opening window = covered_front_after sets group opening window [] window

-- ---- a set's items and hits

-- What an entry is to this set's private cache of a group with these lines: a use by the group, or anyone's drop of its line.
abbrev pub item_of : ℕ → ℕ → ℕ → (ℕ → Bool) → What → List Item
item_of sets group set own (Access hit way owner rmid mask line) = if (owner.0 == group) && (line % sets == set) then Use line ∷ [] else []
item_of sets group set own (Drop line at) = if own line && (line % sets == set) then Dropped line ∷ [] else []
item_of sets group set own what = []

-- the group's items in this set, in order
abbrev pub items : ℕ → ℕ → ℕ → (ℕ → Bool) → List SliceEntry → List Item
items sets group set own entries = flat_map (λ (e : SliceEntry). item_of sets group set own e.what) entries

-- (For proofs.) for an entry that is an item of this set: whether it is an access that hit
abbrev pub hit_of : ℕ → ℕ → ℕ → (ℕ → Bool) → What → List Bool
hit_of sets group set own (Access hit way owner rmid mask line) = if (owner.0 == group) && (line % sets == set) then hit ∷ [] else []
hit_of sets group set own (Drop line at) = if own line && (line % sets == set) then false ∷ [] else []
hit_of sets group set own what = []

-- (For proofs.) whether each of the group's items in this set is an access that hit, in order
abbrev pub hits_in : ℕ → ℕ → ℕ → (ℕ → Bool) → List SliceEntry → List Bool
hits_in sets group set own entries = flat_map (λ (e : SliceEntry). hit_of sets group set own e.what) entries

-- (For proofs.) the group's items in this set of the window up to the last covered access
abbrev pub covered_items : ℕ → ℕ → ℕ → What → List SliceEntry → List Item
covered_items sets group set opening window = items sets group set (uses_line group window) (covered_front sets group opening window)

-- (For proofs.) and whether each of them is an access that hit
abbrev pub covered_hits : ℕ → ℕ → ℕ → What → List SliceEntry → List Bool
covered_hits sets group set opening window = hits_in sets group set (uses_line group window) (covered_front sets group opening window)
