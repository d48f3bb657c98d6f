-- The printed text, an entry at a time.
use Rattle.std.proofs.Common.{◌≡◌, ℕ, ◌^◌, ◌<◌, ◌≤◌, List, [], ◌∷◌, ◌++◌, length, map, codes, refl, ap, ◌∙◌, arith}
use Rattle.std.specs.List.{flat_map}
use Rattle.std.proofs.lemmas.List.Folds.{flat_map-map}
use Rattle.num_text.specs.Printed.{hexadecimal}
use Rattle.num_text.proofs.laws.Pieces.{join_with_byte-cons}
use Rattle.num_text.proofs.laws.Prints.{length-filled}
use Rattle.schemata_text.specs.declared.assignment.Assignment.{Assignment}
use Rattle.schemata_text.specs.Printed.{printed, entry_text, mask_digits}

-- the entries after the first, each with its separator
abbrev pub others_text : ℕ → List Assignment → List ℕ
others_text ways all = flat_map (λ (a : Assignment). 59 ∷ entry_text ways a) all

-- no entry
pub printed-none : (ways : ℕ) → printed ways [] ≡ codes "L3:"
unfolding printed
printed-none ways = refl

-- the first entry and the others
pub printed-some : (ways : ℕ) (a : Assignment) (all : List Assignment) → printed ways (a ∷ all) ≡ codes "L3:" ++ (entry_text ways a ++ others_text ways all)
unfolding printed
printed-some ways a all = ap (λ (rest : List ℕ). codes "L3:" ++ rest) (join_with_byte-cons 59 (entry_text ways a) (map (entry_text ways) all) ∙ ap (λ (rest : List ℕ). entry_text ways a ++ rest) (flat_map-map (λ (y : List ℕ). 59 ∷ y) (entry_text ways) all))

-- a mask has at most eight digits
pub length-hexadecimal_mask : (ways n : ℕ) → ways ≤ 32 → n < 2 ^ 32 → length (hexadecimal (mask_digits ways) n) ≤ 8
length-hexadecimal_mask ways n few small = length-filled 16 7 (mask_digits ways) n (omega arith) (omega arith) (omega arith) (omega arith)
