-- The text of `schemata` is short.
use Rattle.std.proofs.Common.{ℕ, suc, ◌*◌, ◌^◌, ◌<◌, ◌≤◌, List, [], ◌∷◌, ◌++◌, length, codes, decimal, arith, length-append}
use Rattle.std.specs.List.{All}
use Rattle.num_text.specs.Printed.{hexadecimal}
use Rattle.schemata_text.specs.declared.assignment.Assignment.{Assignment}
use Rattle.schemata_text.specs.Printed.{entry_text, mask_digits, printed}
use Rattle.num_text.proofs.laws.Prints.{length-decimal_byte}
use Rattle.schemata_text.proofs.laws.Entries.{length-hexadecimal_mask, others_text, printed-none, printed-some}

-- a domain and a mask as their types bound them
abbrev pub IsSmall : Assignment → Type 0
IsSmall a = (a.domain < 2 ^ 8) × (a.mask < 2 ^ 32)

-- an entry has at most 12 bytes
length-entry_text : (ways : ℕ) (a : Assignment) → ways ≤ 32 → IsSmall a → length (entry_text ways a) ≤ 12
length-entry_text ways a le small =
    omega (arith, length-decimal_byte a.domain small.0, length-hexadecimal_mask ways a.mask le small.1, length-append (decimal a.domain) (61 ∷ hexadecimal (mask_digits ways) a.mask))

-- and each other one with its separator 13
length-others_text : (ways : ℕ) (all : List Assignment) → ways ≤ 32 → All IsSmall all → length (others_text ways all) ≤ 13 * length all
length-others_text ways [] le small = omega arith
length-others_text ways (a ∷ all) le small =
    let first = length-entry_text ways a le (small 0 a (omega arith)) in
    let more = length-others_text ways all le (λ k d lt. small (suc k) d (omega arith)) in
    omega (arith, first, more, length-append (59 ∷ entry_text ways a) (others_text ways all))

-- so that all have at most 107
pub length-printed : (ways : ℕ) (all : List Assignment) → ways ≤ 32 → length all ≤ 8 → All IsSmall all → length (printed ways all) ≤ 107
length-printed ways [] le few small = rw (printed-none ways) (omega arith)
length-printed ways (a ∷ all) le few small =
    let others = length-others_text ways (a ∷ all) le small in
    rw (printed-some ways a all) (omega (arith, few, others, length-append (codes "L3:") (entry_text ways a ++ others_text ways all), length-append (59 ∷ entry_text ways a) (others_text ways all), length-append (entry_text ways a) (others_text ways all)))
