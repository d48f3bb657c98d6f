-- How many groups there are, and that one more has a place.
use Rattle.std.proofs.Common.{◌≡◌, ℕ, suc, ◌+◌, ◌<◌, ◌≤◌, Bool, true, false, cond, List, [], ◌∷◌, length, get_or, Option, None, Some, IsSome, IfSome, refl, sym, subst, ap, arith, length-append}
use Rattle.std.specs.Prelude.{IsSomeAnd}
use Rattle.std.specs.List.{All, slice_get}
use Rattle.std.specs.Option.{option_to_list}
use Rattle.std.proofs.lemmas.Bool.{ne_eqb}
use Rattle.std.proofs.lemmas.List.Folds.{list_any_none}
use Rattle.group_tree.specs.Lists.{has_group}
use Rattle.group_tree.specs.Records.{has_gid, has_mode}
use Rattle.group_tree.specs.declared.group.Group.{Group}
use Rattle.group_tree.specs.declared.group_kind.GroupKind.{GroupKind}
use Rattle.group_tree.specs.declared.group_kind.GroupKind.TheVariants.{Control, Monitor}
use Rattle.lists.proofs.Pairs.{length-distinct}
use Rattle.machine.specs.Ranges.{InRange}
use Rattle.machine.specs.declared.parameters.Parameters.{Parameters}
use Rattle.pseudo_lock.specs.declared.region.Region.{Region}
use Rattle.rc_base.specs.declared.names.Mode.{Mode}
use Rattle.rc_base.specs.declared.names.Mode.TheVariants.{Shareable, Exclusive, LockSetup, Locked}
use Rattle.tree_core.specs.Kept.{Keeps}
use Rattle.tree_core.specs.Tables.{Tables}
use Rattle.tree_core.proofs.RegionPlaces.{place_of, place_of-some, region_place, IsPlaceOf, region_place-passes, region_place-differ}
use Rattle.tree_law.proofs.laws.DistinctIds.{ids_of, length-ids_of}
use Rattle.tree_law.specs.Regions.{HasOneRegion, has_region_of}
use Rattle.tree_law.specs.Sound.{HasIds, HasIdsOf, IsDefault, IsUsed}
use Rattle.tree_law.specs.State.{State}

-- how many ids of a kind a group has
abbrev held : (Group → Option ℕ) → Group → ℕ
held of g = length (option_to_list (of g))

module _ (regions : List (Option Region)) where
  -- how many ids and regions a group has
  abbrev holds : Group → ℕ
  holds g = held (λ (x : Group). x.rmid) g + held (λ (x : Group). x.class) g + held (region_place regions) g

  -- each group has some
  holds-some : (groups : List Group) (g : Group) → HasIds groups g.kind g → HasOneRegion regions g → 0 < holds g
  holds-some groups g has one = by_kind g.kind refl has
    where
      some : (o : Option ℕ) → IsSome o → 0 < length (option_to_list o)
      some None is = absurd (let f : false ≡ true = is in cc)
      some (Some id) is = omega arith

      placed : has_mode Locked g ≡ true → 0 < held (region_place regions) g
      placed locked = subst (λ (b : Bool). 0 < length (option_to_list (cond b (place_of (has_region_of g.gid) regions) None))) (sym locked)
          (some (place_of (has_region_of g.gid) regions) (place_of-some (has_region_of g.gid) regions (let here = one locked in omega arith)))

      by_mode : (mode : Mode) → g.kind ≡ Control → g.mode ≡ mode → HasIdsOf mode g → 0 < holds g
      by_mode Shareable control is ids = let more = some g.rmid ids.1 in omega arith
      by_mode Exclusive control is ids = let more = some g.rmid ids.1 in omega arith
      by_mode LockSetup control is ids = let more = some g.class ids.0 in omega arith
      by_mode Locked control is ids = let more = placed (rw (control, is) refl) in omega arith

      by_kind : (kind : GroupKind) → g.kind ≡ kind → HasIds groups kind g → 0 < holds g
      by_kind Control is ids = by_mode g.mode is refl ids
      by_kind (Monitor parent) is ids = let more = some g.rmid ids.1 in omega arith

  -- the ids and regions of all of them
  abbrev total : List Group → ℕ
  total groups = length (ids_of (λ (x : Group). x.rmid) groups) + length (ids_of (λ (x : Group). x.class) groups) + length (ids_of (region_place regions) groups)

  total-cons : (g : Group) (gs : List Group) → total (g ∷ gs) ≡ holds g + total gs
  total-cons g gs =
      let a = length-append (option_to_list g.rmid) (ids_of (λ (x : Group). x.rmid) gs) in
      let b = length-append (option_to_list g.class) (ids_of (λ (x : Group). x.class) gs) in
      let c = length-append (option_to_list (region_place regions g)) (ids_of (region_place regions) gs) in
      omega arith

  -- are no fewer than they are
  length-total : (groups : List Group) → All (λ (g : Group). 0 < holds g) groups → length groups ≤ total groups
  length-total [] each = omega arith
  length-total (g ∷ gs) each =
      let rest = length-total gs (λ k d within. each (suc k) d (omega arith)) in
      let here = each 0 g (omega arith) in
      omega (arith, rest, here, total-cons g gs)

  -- and more, for the first has two
  length-total_lt : (groups : List Group) → IsSomeAnd (slice_get groups 0) IsDefault → All (λ (g : Group). 0 < holds g) groups → length groups < total groups
  length-total_lt [] first each = absurd first
  length-total_lt (g ∷ gs) first each =
      let rest = length-total gs (λ k d within. each (suc k) d (omega arith)) in
      let one : held (λ (x : Group). x.class) g ≡ 1 = ap (λ (o : Option ℕ). length (option_to_list o)) first.class in
      let two : held (λ (x : Group). x.rmid) g ≡ 1 = ap (λ (o : Option ℕ). length (option_to_list o)) first.rmid in
      omega (arith, rest, one, two, total-cons g gs)

module _ {m : Parameters} {t : Tables} {s : State} {epoch : ℕ} (keeps : Keeps m t s epoch) where
  -- there are no more RMIDs of groups than RMIDs
  pub length-rmids_le : length (ids_of (λ (g : Group). g.rmid) s.groups) ≤ m.rmids
  length-rmids_le = length-ids_of (λ (g : Group). g.rmid) m.rmids s.groups (λ i j d lt within. (keeps.sound.numbered.apart i j d lt within).1) (λ k d within. used (get_or s.groups k d).rmid (keeps.sound.numbered.rmids k d within))
    where
      used : (o : Option ℕ) → IfSome o (IsUsed m s.limbo) → IfSome o (λ id. id < m.rmids)
      used None is = tt
      used (Some id) is = is.0

  -- nor more classes of groups than classes
  length-classes_le : length (ids_of (λ (g : Group). g.class) s.groups) ≤ m.classes
  length-classes_le = length-ids_of (λ (g : Group). g.class) m.classes s.groups (λ i j d lt within. (keeps.sound.numbered.apart i j d lt within).0) keeps.sound.numbered.classes

  -- nor more pseudo-locked groups than domains
  length-regions_le : length (ids_of (region_place s.regions) s.groups) ≤ m.domains
  length-regions_le = length-ids_of (region_place s.regions) m.domains s.groups (λ i j d lt within. region_place-differ s.regions (get_or s.groups i d) (get_or s.groups j d) (keeps.sound.named.gids i j d lt within))
      (λ k d within. placed (get_or s.groups k d) (region_place s.regions (get_or s.groups k d)) (region_place-passes s.regions (get_or s.groups k d)))
    where
      placed : (g : Group) (o : Option ℕ) → IfSome o (IsPlaceOf s.regions g) → IfSome o (λ id. id < m.domains)
      placed g None is = tt
      placed g (Some k) is = subst (λ (n : ℕ). k < n) keeps.sound.regions.each is.0

  -- the next gid is fresh
  pub has_group-next_gid : has_group (record { 0 = s.next_gid }) s.groups ≡ false
  has_group-next_gid = list_any_none (has_gid (record { 0 = s.next_gid })) s.groups (λ k d within. let below = keeps.sound.named.serial k d within in ne_eqb s.next_gid (get_or s.groups k d).gid.0 (λ e. absurd (omega (arith, below, e))))

  -- one more group has a place
  pub length-groups_lt : InRange m → length s.groups < 328
  length-groups_lt range =
      let more = length-total_lt s.regions s.groups keeps.sound.named.first (λ k d within. holds-some s.regions s.groups (get_or s.groups k d) (keeps.sound.numbered.ids k d within) (keeps.sound.regions.once k d within)) in
      let rmids = length-rmids_le in let classes = length-classes_le in let domains = length-regions_le in
      let a = range.rmid_limit in let b = range.class_limit in let c = range.domain_limit in
      omega arith

  -- there are no more RMIDs in limbo than RMIDs
  pub length-limbo_le : length s.limbo ≤ m.rmids
  length-limbo_le = length-distinct m.rmids s.limbo (λ i j d lt within e. absurd (let less = keeps.sound.numbered.limbo_rising i j d lt within in omega (arith, less, e))) keeps.sound.numbered.limbo_exists
