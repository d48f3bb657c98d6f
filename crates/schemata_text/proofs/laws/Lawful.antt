-- Lawful assignments, one more at a time.
use Rattle.std.proofs.Common.{◌≡◌, ℕ, ◌<◌, Bool, false, ◌||◌, Ok, List, [], ◌∷◌, ◌++◌, refl, ap, ◌∙◌}
use Rattle.std.specs.Prelude.{nat_eq}
use Rattle.std.specs.List.{list_any, IsDistinct, AllByRecursion}
use Rattle.std.proofs.lemmas.Cmp.{nat_eq_equiv}
use Rattle.std.proofs.lemmas.Map.Keys.{IsDistinct-push}
use Rattle.cbm.specs.declared.geometry.Geometry.{Geometry}
use Rattle.cbm.specs.Validity.{checked}
use Rattle.schemata_text.specs.declared.assignment.Assignment.{Assignment}
use Rattle.schemata_text.specs.Reading.{AreLawful, domains_of, is_of}

-- one more number below a limit
AllByRecursion-push : (n x : ℕ) (xs : List ℕ) → AllByRecursion (λ d. d < n) xs → x < n → AllByRecursion (λ d. d < n) (xs ++ x ∷ [])
AllByRecursion-push n x [] all lt = (lt, tt)
AllByRecursion-push n x (y ∷ xs) all lt = (all.0, AllByRecursion-push n x xs all.1 lt)

-- a domain is among those of the assignments where one is of it
list_any-domains_of : (d : ℕ) (xs : List Assignment) → list_any (nat_eq d) (domains_of xs) ≡ list_any (is_of d) xs
list_any-domains_of d [] = refl
list_any-domains_of d (x ∷ xs) = ap (λ (b : Bool). nat_eq d x.domain || b) (list_any-domains_of d xs)

-- the domains of one assignment more
domains_of-push : (xs : List Assignment) (a : Assignment) → domains_of (xs ++ a ∷ []) ≡ domains_of xs ++ a.domain ∷ []
domains_of-push [] a = refl
domains_of-push (x ∷ xs) a = ap (λ (ds : List ℕ). x.domain ∷ ds) (domains_of-push xs a)

-- one more assignment that is good
AllByRecursion-push_mask : (P : Assignment → Type 0) (xs : List Assignment) (a : Assignment) → AllByRecursion P xs → P a → AllByRecursion P (xs ++ a ∷ [])
AllByRecursion-push_mask P [] a all p = (p, tt)
AllByRecursion-push_mask P (x ∷ xs) a all p = (all.0, AllByRecursion-push_mask P xs a all.1 p)

-- a valid mask of a domain that is not named yet
pub AreLawful-push : (g : Geometry) (n : ℕ) (xs : List Assignment) (a : Assignment) → AreLawful g n xs → a.domain < n → list_any (is_of a.domain) xs ≡ false → checked g a.mask ≡ Ok a.mask → AreLawful g n (xs ++ a ∷ [])
AreLawful-push g n xs a lawful lt fresh valid = record {
  exist = rw (domains_of-push xs a) (AllByRecursion-push n a.domain (domains_of xs) lawful.exist lt);
  apart = rw (domains_of-push xs a) (IsDistinct-push nat_eq_equiv (domains_of xs) a.domain lawful.apart (list_any-domains_of a.domain xs ∙ fresh));
  valid = AllByRecursion-push_mask (λ (b : Assignment). checked g b.mask ≡ Ok b.mask) xs a lawful.valid valid;
}

-- no assignment
pub AreLawful-none : (g : Geometry) (n : ℕ) → AreLawful g n []
unfolding IsDistinct
AreLawful-none g n = record { exist = tt; apart = tt; valid = tt }
