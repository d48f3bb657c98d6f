-- The slots of a set: each has a line or is a hole, and those in front serve a cache of as many ways.
-- (For functions and proofs: no promise of the program stands on it.)
use Rattle.std.specs.Prelude.{◌≡◌, ℕ, ◌≤◌, Bool, false, ◌==◌, if◌then◌else◌, List, [], ◌∷◌, map, get_or, length, replicate, reverse, take, Option, Some, None}
use Rattle.std.specs.Int.{bit_at}
use Rattle.std.specs.List.{range_with_len}
use Rattle.private_lru.specs.Private.{kept_after}
use Rattle.private_lru.specs.declared.item.Item.{Item}

-- whether a slot is a hole: bit p of the word stands for slot p
abbrev pub is_hole : ℕ → ℕ → Bool
is_hole holes slot = bit_at holes slot == 1

-- what is in a slot
abbrev pub slot_at : ℕ → List ℕ → ℕ → Option ℕ
slot_at holes lines slot = if is_hole holes slot then None else Some (get_or lines slot 0)

-- the 32 slots of a set
unfoldable pub slots_of : ℕ → List ℕ → List (Option ℕ)
slots_of holes lines = map (slot_at holes lines) (range_with_len 0 32)

-- the slots of a set of which no line was used
unfoldable pub empty_slots : List (Option ℕ)
empty_slots = replicate 32 None

-- whether a slot has this line
abbrev pub has_line : ℕ → Option ℕ → Bool
has_line x None = false
has_line x (Some y) = y == x

-- the lines that are in slots, in order
abbrev pub lines_in : List (Option ℕ) → List ℕ
lines_in [] = []
lines_in (None ∷ slots) = lines_in slots
lines_in (Some x ∷ slots) = x ∷ lines_in slots

-- the slots with a hole in place of the first that has this line
abbrev pub dropped : ℕ → List (Option ℕ) → List (Option ℕ)
dropped x [] = []
dropped x (slot ∷ slots) = if has_line x slot then None ∷ slots else slot ∷ dropped x slots

-- the slots with this line in front: the lines before the first hole move one slot back, and where there is no hole the last line is lost
abbrev pub pushed : ℕ → List (Option ℕ) → List (Option ℕ)
pushed x [] = []
pushed x (None ∷ slots) = Some x ∷ slots
pushed x (Some y ∷ slots) = Some x ∷ pushed y slots

-- the lines that a private cache of so many ways keeps after these items, of which the latest stands first; the line used last is first
abbrev pub kept : ℕ → List Item → List ℕ
kept ways [] = []
kept ways (item ∷ items) = kept_after ways (kept ways items) item

-- The slots serve caches of each number of ways, after these items: as many slots in front as there are ways have just the lines that
-- the cache keeps.
pub record Serve (slots : List (Option ℕ)) (items : List Item) : Type 0 where
  pub all : length slots ≡ 32
  pub lines : (ways : ℕ) → ways ≤ 32 → lines_in (take ways slots) ≡ kept ways (reverse items)
