-- The counts that a command needs, and their keys.
-- (For functions and proofs: no promise of the program stands on it.)
use Rattle.std.specs.List.Sorted.{IsNonDecreasing, IsPermutation}
use Rattle.std.specs.Prelude.{ℕ, ◌+◌, ◌*◌, ◌<◌, [], All, Box, List, Option, map, option_map, unwrap_or}
use Rattle.std.specs.declared.alloc.Global.{Global}
use Rattle.journal_check.specs.declared.needs.NeedLists.{NeedLists}

-- a domain and an RMID as one number
abbrev pub key_of : ℕ × ℕ → ℕ
key_of need = need.0 * 65536 + need.1

-- the RMID of each has 16 bits
abbrev pub AreSmall : List (ℕ × ℕ) → Type 0
AreSmall needs = All (λ (need : ℕ × ℕ). need.1 < 65536) needs

-- these are the keys of these, sorted
pub record AreKeys (needs : List (ℕ × ℕ)) (keys : List ℕ) : Type 0 where
  pub small : AreSmall needs
  pub same : IsPermutation (map key_of needs) keys
  pub sorted : IsNonDecreasing keys

-- the domains and RMIDs in lists, if there are any
abbrev pub pairs_in : Option (Box NeedLists Global) → List (ℕ × ℕ)
pairs_in lists = unwrap_or (option_map (λ (b : Box NeedLists Global). b.value.pairs.items) lists) []

-- and their keys
abbrev pub keys_in : Option (Box NeedLists Global) → List ℕ
keys_in lists = unwrap_or (option_map (λ (b : Box NeedLists Global). b.value.keys.items) lists) []
