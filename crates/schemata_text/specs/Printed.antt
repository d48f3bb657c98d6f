-- The canonical text of assignments, and that it reads back.
use Rattle.std.specs.Prelude.{◌≡◌, ℕ, ◌+◌, ◌/◌, ◌^◌, ◌<◌, ◌≤◌, List, ◌∷◌, ◌++◌, length, map, codes, decimal, Ok}
use Rattle.std.specs.List.{join_with_byte, AllByRecursion}
use Rattle.num_text.specs.Printed.{hexadecimal}
use Rattle.cbm.specs.declared.geometry.Geometry.{Geometry}
use Rattle.schemata_text.specs.declared.assignment.Assignment.{Assignment}
use Rattle.schemata_text.specs.Reading.{reading, AreLawful}

-- how many hexadecimal digits a mask of so many ways has
abbrev pub mask_digits : ℕ → ℕ
mask_digits ways = (ways + 3) / 4

-- `id=mask`
abbrev pub entry_text : ℕ → Assignment → List ℕ
entry_text ways a = decimal a.domain ++ 61 ∷ hexadecimal (mask_digits ways) a.mask

-- `L3:` and the entries, separated by `;`
unfoldable pub printed : ℕ → List Assignment → List ℕ
printed ways all = codes "L3:" ++ join_with_byte 59 (map (entry_text ways) all)

-- (For proofs.) reading the printed text of valid masks of distinct domains that exist gives them back
abbrev pub ReadsBack : Type 0
ReadsBack = (g : Geometry) (domains : ℕ) (all : List Assignment) → g.len ≤ 32 → domains ≤ 8 → 0 < length all → AreLawful g domains all
    → AllByRecursion (λ (a : Assignment). a.mask < 2 ^ 32) all → reading g domains (printed g.len all) ≡ Ok all
