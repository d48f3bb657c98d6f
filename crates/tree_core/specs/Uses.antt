-- Who uses the ways of a cache.
-- (For functions and proofs: no promise of the program stands on it.)
use Rattle.std.specs.Prelude.{◌≡◌, ℕ}
use Rattle.cbm.specs.Masks.{has_way}
use Rattle.mode_rules.specs.declared.domain_use.DomainUse.{DomainUse}

-- two uses of a cache with the same ways and the same region
pub record SameUse (a b : DomainUse) : Type 0 where
  pub hardware : (way : ℕ) → has_way a.hardware way ≡ has_way b.hardware way
  pub shared : (way : ℕ) → has_way a.shared way ≡ has_way b.shared way
  pub exclusive : (way : ℕ) → has_way a.exclusive way ≡ has_way b.exclusive way
  pub region : a.region ≡ b.region
