-- Masks after some assignments: as many as before, and valid.
use Rattle.std.proofs.Common.{◌≡◌, ℕ, zero, suc, ◌^◌, ◌<◌, List, [], ◌∷◌, length, set, inl, inr, refl, ◌∙◌, arith, length-set}
use Rattle.std.specs.List.{All, AllByRecursion}
use Rattle.std.proofs.lemmas.Bool.{cases_lt}
use Rattle.cbm.proofs.laws.Validity.{checked-zero}
use Rattle.machine.specs.declared.parameters.Parameters.{Parameters}
use Rattle.tree_law.specs.Masks.{IsValid}
use Rattle.tree_law.specs.Space.{geometry_of}
use Rattle.schemata_text.specs.declared.assignment.Assignment.{Assignment}
use Rattle.schemata_text.specs.Reading.{domains_of}
use Rattle.tree_law.specs.commands.Schemata.{assigned}

-- a mask that is valid has a way, and only ways that exist
pub mask-valid : (m : Parameters) (mask : ℕ) → IsValid m mask → (0 < mask) × (mask < 2 ^ m.ways)
mask-valid m mask valid = (some, valid.bounded)
  where
    some : 0 < mask
    some = elim (cases_lt 0 mask) [
      | inl lt ↦ lt
      | inr le ↦ (let none : mask ≡ 0 = omega arith in absurd (let e = checked-zero (geometry_of m) mask none ∙ valid.faultless in cc))
    ]

-- there are as many masks after assignments
pub length-assigned : (masks : List ℕ) (all : List Assignment) → length (assigned masks all) ≡ length masks
length-assigned masks [] = refl
length-assigned masks (a ∷ all) = length-assigned (set masks a.domain a.mask) all ∙ length-set masks a.domain a.mask

-- what lawful assignments name and give
pub All-domains_of : (n : ℕ) (all : List Assignment) → AllByRecursion (λ d. d < n) (domains_of all) → All (λ (a : Assignment). a.domain < n) all
All-domains_of n [] exist k d lt = absurd (omega arith)
All-domains_of n (a ∷ all) exist zero d lt = exist.0
All-domains_of n (a ∷ all) exist (suc k) d lt = All-domains_of n all exist.1 k d (omega arith)
