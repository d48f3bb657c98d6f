-- The initial mask of a new group, by the uses that the groups tell.
use Rattle.std.proofs.Common.{◌≡◌, ℕ, ◌-◌, ◌^◌, ◌<◌, Bool, List, Option, Some, None, IfSome, refl, sym, ap, ◌∙◌, arith}
use Rattle.std.specs.Option.{option_map}
use Rattle.lists.proofs.Filters.{filter-same}
use Rattle.cbm.specs.Masks.{ways_of}
use Rattle.cbm.specs.declared.geometry.Geometry.{Geometry}
use Rattle.mode_rules.specs.StartingWays.{initial_ways, may_start_with, space_in, starting_ways}
use Rattle.mode_rules.specs.declared.domain_use.DomainUse.{DomainUse}
use Rattle.machine.specs.declared.parameters.Parameters.{Parameters}
use Rattle.tree_core.specs.Uses.{SameUse}
use Rattle.tree_law.proofs.laws.WayMasks.{mask_of-ways_of}
use Rattle.tree_law.specs.Space.{geometry_of, initial_mask, mask_of, used_in}
use Rattle.tree_law.specs.State.{State}

-- they let a new group start with the same ways
may_start_with-same : (a b : DomainUse) (way : ℕ) → SameUse a b → may_start_with a way ≡ may_start_with b way
may_start_with-same a b way same = rw (same.hardware way, same.shared way, same.exclusive way, same.region) refl

-- give a new group the same ways
pub initial_ways-same : (g : Geometry) (a b : DomainUse) → SameUse a b → initial_ways g a ≡ initial_ways g b
unfolding initial_ways starting_ways
initial_ways-same g a b same = ap (space_in g) (filter-same (may_start_with a) (may_start_with b) 0 g.len (λ way low high. may_start_with-same a b way same))

-- a mask that was found is the mask of the ways that were found
pub option_map-mask_of : (found : Option ℕ) (ways : Option (List ℕ)) → IfSome found (λ mask. mask < 2 ^ 32) → option_map ways_of found ≡ ways → found ≡ option_map mask_of ways
option_map-mask_of None ways small is = ap (option_map mask_of) is
option_map-mask_of (Some mask) ways small is = ap Some (sym (mask_of-ways_of mask (omega arith))) ∙ ap (option_map mask_of) is

-- the shape of masks, by its parts
geometry_of-parts : (m : Parameters) (g : Geometry) → g.len ≡ m.ways → g.min ≡ m.min → g.sparse ≡ m.sparse → g ≡ geometry_of m
geometry_of-parts m g len least sparse =
    ap (λ (n : ℕ). record g { len = n }) len ∙ ap (λ (n : ℕ). record g { len = m.ways; min = n }) least ∙ ap (λ (b : Bool). record (geometry_of m) { sparse = b }) sparse

-- what was found, where the use has the same ways as the state's
pub initial_mask-found : (m : Parameters) (s : State) (domain : ℕ) (g : Geometry) (used : DomainUse) (found : Option ℕ) → g.len ≡ m.ways → g.min ≡ m.min → g.sparse ≡ m.sparse
    → SameUse used (used_in m s None domain) → IfSome found (λ mask. mask < 2 ^ 32) → option_map ways_of found ≡ initial_ways g used → found ≡ initial_mask m s domain
initial_mask-found m s domain g used found len least sparse same small is =
    option_map-mask_of found (initial_ways (geometry_of m) (used_in m s None domain)) small
    (is ∙ ap (λ (shape : Geometry). initial_ways shape used) (geometry_of-parts m g len least sparse) ∙ initial_ways-same (geometry_of m) used (used_in m s None domain) same)
