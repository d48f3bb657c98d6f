-- The ways of unions of masks.
use Rattle.std.proofs.Common.{◌≡◌, ℕ, Bool, ◌||◌, List, [], ◌∷◌, sym, ap, ◌∙◌}
use Rattle.std.specs.List.{list_any}
use Rattle.std.proofs.lemmas.Nat.Bits.{bit_at-zero}
use Rattle.cbm.proofs.laws.Ways.{has_way-bit_or, has_way-zero}
use Rattle.cbm.specs.Masks.{IsUnion, has_way}
use Rattle.tree_law.specs.Space.{union_of}

-- the ways of a union
pub has_way-union_of : (masks : List ℕ) (way : ℕ) → has_way (union_of masks) way ≡ list_any (λ (mask : ℕ). has_way mask way) masks
has_way-union_of [] way = has_way-zero 0 way (bit_at-zero way)
has_way-union_of (mask ∷ masks) way = has_way-bit_or mask (union_of masks) way ∙ ap (λ (b : Bool). has_way mask way || b) (has_way-union_of masks way)

-- a mask with just the ways of these has each way as their union has it
pub has_way-union : (union : ℕ) (masks : List ℕ) (way : ℕ) → IsUnion union masks → has_way union way ≡ has_way (union_of masks) way
has_way-union union masks way is = is way ∙ sym (has_way-union_of masks way)
