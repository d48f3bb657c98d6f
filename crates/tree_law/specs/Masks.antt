-- Which masks groups may have beside each other.
-- (Kernel documentation, "Schemata files - general concepts" and `mode`.)
-- (For functions and proofs: no promise of the program stands on it.)
use Rattle.std.specs.Prelude.{◌≡◌, ◌≢◌, ℕ, ◌<◌, ◌^◌, ◌⊎◌, true, false, AllPairs, All, List, length, Ok}
use Rattle.cbm.specs.Masks.{overlaps}
use Rattle.cbm.specs.Validity.{checked}
use Rattle.group_tree.specs.Records.{is_control, mask_in}
use Rattle.group_tree.specs.declared.group.Group.{Group}
use Rattle.machine.specs.declared.parameters.Parameters.{Parameters}
use Rattle.rc_base.specs.declared.names.Mode.TheVariants.{Exclusive, Locked}
use Rattle.tree_law.specs.Counted.{is_counted}
use Rattle.tree_law.specs.Space.{geometry_of}

-- A mask of the machine: one without a fault, and without a way past the last. The test for faults reads 64 bits alone.
pub record IsValid (m : Parameters) (mask : ℕ) : Type 0 where
  pub faultless : checked (geometry_of m) mask ≡ Ok mask
  pub bounded : mask < 2 ^ m.ways

-- two masks have no way in common
abbrev pub AreApart : ℕ → ℕ → Type 0
AreApart a b = overlaps a b ≡ false

-- in a domain, the mask of an exclusive group meets no other counted group's
abbrev pub KeepApart : ℕ → Group → Group → Type 0
KeepApart domain a b =
    is_counted a ≡ true → is_counted b ≡ true → (a.mode ≡ Exclusive) ⊎ (b.mode ≡ Exclusive) → AreApart (mask_in domain a) (mask_in domain b)

-- in a domain, the mask of a control group that is not pseudo-locked is valid
abbrev pub HasValid : Parameters → ℕ → Group → Type 0
HasValid m domain g = is_control g.kind ≡ true → g.mode ≢ Locked → IsValid m (mask_in domain g)

-- in a domain, the mask of an exclusive group meets no shareable bit
abbrev pub OffShareable : Parameters → ℕ → Group → Type 0
OffShareable m domain g = is_counted g ≡ true → g.mode ≡ Exclusive → AreApart (mask_in domain g) m.shareable

-- each group has a mask in each domain, and those of counted groups are as the modes allow
pub record HaveMasks (m : Parameters) (groups : List Group) : Type 0 where
  pub places : All (λ (g : Group). length g.masks ≡ 8) groups
  pub valid : (domain : ℕ) → domain < m.domains → All (HasValid m domain) groups
  pub apart : (domain : ℕ) → domain < m.domains → AllPairs (KeepApart domain) groups
  pub off_shareable : (domain : ℕ) → domain < m.domains → All (OffShareable m domain) groups
