-- The use of each cache, a domain at a time.
use Rattle.std.proofs.Common.{◌≡◌, ℕ, ◌+◌, List, [], ◌∷◌, ◌++◌, map, None, sym, ap, ap₂, ◌∙◌, arith}
use Rattle.std.specs.List.{range_with_len}
use Rattle.std.proofs.lemmas.List.{map-append}
use Rattle.lists.proofs.Ranges.{range_with_len-suc}
use Rattle.bit_usage.proofs.laws.SameWays.{SameWays, letters_in}
use Rattle.bit_usage.specs.Usage.{letters_of}
use Rattle.cbm.specs.Masks.{IsUnion, has_way}
use Rattle.group_tree.specs.Others.{masks_of_others}
use Rattle.machine.specs.declared.parameters.Parameters.{Parameters}
use Rattle.mode_rules.specs.declared.domain_use.DomainUse.{DomainUse}
use Rattle.rc_base.specs.declared.names.Mode.TheVariants.{Exclusive, Shareable}
use Rattle.tree_core.proofs.laws.Unions.{has_way-union}
use Rattle.tree_law.specs.Space.{region_mask, used_in}
use Rattle.tree_law.specs.State.{State}

-- what the groups and the region tell of a domain is what the state has there
pub SameWays-told : (m : Parameters) (s : State) (domain : ℕ) (used : DomainUse) → used.hardware ≡ m.shareable → IsUnion used.shared (masks_of_others None Shareable domain s.groups) → IsUnion used.exclusive (masks_of_others None Exclusive domain s.groups) → used.region ≡ region_mask s.regions domain → SameWays used (used_in m s None domain)
SameWays-told m s domain used hardware shared exclusive region = record {
  hardware = λ way. ap (λ (mask : ℕ). has_way mask way) hardware;
  shared = λ way. has_way-union used.shared (masks_of_others None Shareable domain s.groups) way shared;
  exclusive = λ way. has_way-union used.exclusive (masks_of_others None Exclusive domain s.groups) way exclusive;
  region = λ way. ap (λ (mask : ℕ). has_way mask way) region;
}

-- the uses of one domain more
map-range_with_len_suc : (f : ℕ → DomainUse) (n : ℕ) → map f (range_with_len 0 (n + 1)) ≡ map f (range_with_len 0 n) ++ f n ∷ []
map-range_with_len_suc f n =
    let here : 0 + n ≡ n = omega arith in
    let range : range_with_len 0 (n + 1) ≡ range_with_len 0 n ++ n ∷ [] = range_with_len-suc 0 n ∙ ap (λ (k : ℕ). range_with_len 0 n ++ k ∷ []) here in
    ap (map f) range ∙ map-append f (range_with_len 0 n) (n ∷ [])

-- have the letters of the next one too
pub letters_in-more : (ways n : ℕ) (f : ℕ → DomainUse) (all : List DomainUse) (used : DomainUse) → letters_in ways all ≡ letters_in ways (map f (range_with_len 0 n)) → letters_of used ways ≡ letters_of (f n) ways
    → letters_in ways (all ++ used ∷ []) ≡ letters_in ways (map f (range_with_len 0 (n + 1)))
letters_in-more ways n f all used same one =
    let letters : DomainUse → List ℕ = λ u. letters_of u ways in
    map-append letters all (used ∷ [])
    ∙ ap₂ (λ (xs : List (List ℕ)) (x : List ℕ). xs ++ x ∷ []) same one
    ∙ sym (ap (map letters) (map-range_with_len_suc f n) ∙ map-append letters (map f (range_with_len 0 n)) (f n ∷ []))
