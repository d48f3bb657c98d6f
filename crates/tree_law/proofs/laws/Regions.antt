-- In a sound tree the pseudo-locked records have just the ways of the region.
use Rattle.std.proofs.Common.{◌≡◌, ℕ, ◌<◌, Bool, true, false, not, ◌&&◌, cond, eqb, length, filter, get_or, Option, None, Some, refl, sym, subst, ap, ◌∙◌, arith}
use Rattle.std.specs.List.{list_any}
use Rattle.std.specs.Option.{option_map_or}
use Rattle.std.proofs.lemmas.Bool.{eqb-true, true_from_ne_false}
use Rattle.std.proofs.lemmas.List.{get_or_default}
use Rattle.std.proofs.lemmas.List.Elements.{All-map}
use Rattle.std.proofs.lemmas.List.Folds.{Any-from_list_any, list_any_none}
use Rattle.std.proofs.lemmas.Nat.Bits.{bit_at-zero}
use Rattle.std.proofs.lemmas.Option.{slice_get-get_or}
use Rattle.cbm.proofs.laws.Ways.{has_way-zero}
use Rattle.cbm.specs.Masks.{IsUnion, has_way}
use Rattle.group_tree.specs.Others.{masks_of_others}
use Rattle.group_tree.specs.Records.{has_gid, has_mode, is_other, is_other_in, mask_in}
use Rattle.group_tree.specs.declared.group.Group.{Group}
use Rattle.lists.proofs.Keyed.{place-key}
use Rattle.lists.proofs.Tests.{All-kept, All-from_mapped}
use Rattle.machine.specs.declared.parameters.Parameters.{Parameters}
use Rattle.rc_base.specs.declared.names.Gid.{Gid}
use Rattle.rc_base.specs.declared.names.Mode.TheVariants.{Locked}
use Rattle.tree_law.proofs.Groups.{gid_number}
use Rattle.lists.proofs.Choices.{cond-and}
use Rattle.tree_law.specs.LawsRegions.{IsUnlocked}
use Rattle.tree_law.specs.Regions.{has_region_of, holds_region}
use Rattle.tree_law.specs.Sound.{IsSound}
use Rattle.tree_law.specs.Space.{region_mask}
use Rattle.tree_law.specs.State.{State}
use Rattle.pseudo_lock.specs.declared.region.Region.{Region}

module _ (m : Parameters) (s : State) (gid : Option Gid) (domain : ℕ) (sound : IsSound m s) (unlocked : IsUnlocked gid s.groups) (lt : domain < m.domains) where
  -- the domain has a place among the regions
  domain-below : domain < length s.regions
  domain-below = omega (arith, lt, sound.regions.each)

  -- of the others' masks none has a way that no pseudo-locked record has
  list_any-masks_of_others : (way : ℕ) → ((k : ℕ) (d : Group) → k < length s.groups → has_mode Locked (get_or s.groups k d) ≡ true → has_way (mask_in domain (get_or s.groups k d)) way ≡ false)
      → list_any (λ (mask : ℕ). has_way mask way) (masks_of_others gid Locked domain s.groups) ≡ false
  list_any-masks_of_others way none = list_any_none (λ (x : ℕ). has_way x way) (masks_of_others gid Locked domain s.groups)
      (All-map (λ (x : ℕ). has_way x way ≡ false) (mask_in domain) (filter (is_other_in gid Locked) s.groups)
      (All-kept (λ (x : Group). has_way (mask_in domain x) way ≡ false) (is_other_in gid Locked) s.groups (λ k d lt' is. none k d lt' (second (is_other gid (get_or s.groups k d)) (has_mode Locked (get_or s.groups k d)) is))))
    where
      second : (a b : Bool) → (a && b) ≡ true → b ≡ true
      second true b e = e
      second false b e = absurd (let f : false ≡ true = e in cc)

  -- a record without this region has no way
  has_way-no_region : (k : ℕ) (d : Group) (o : Option Region) (way : ℕ) → k < length s.groups → has_mode Locked (get_or s.groups k d) ≡ true → get_or s.regions domain None ≡ o → has_region_of (get_or s.groups k d).gid o ≡ false
      → has_way (mask_in domain (get_or s.groups k d)) way ≡ false
  has_way-no_region k d o way lt' locked is none =
      ap (λ (n : ℕ). has_way n way) (sound.regions.no_other k d lt' locked domain domain-below o (slice_get-get_or s.regions domain None domain-below ∙ ap Some is) none) ∙ has_way-zero 0 way (bit_at-zero way)

  -- the record of a region
  holds_region-some : (r : Region) → get_or s.regions domain None ≡ Some r → (k : ℕ) × (x : Group) × (k < length s.groups) × (get_or s.groups k x ≡ x) × (has_gid r.gid x ≡ true) × (has_mode Locked x ≡ true) × (mask_in domain x ≡ r.mask)
  holds_region-some r is =
      let old = sound.regions.lawful domain r (slice_get-get_or s.regions domain None domain-below ∙ ap Some is) in
      let some = Any-from_list_any (holds_region domain r) s.groups old.held in
      let two = cond-and (has_gid r.gid some.1) (cond (has_mode Locked some.1) (eqb (mask_in domain some.1) r.mask) false) some.4 in
      let three = cond-and (has_mode Locked some.1) (eqb (mask_in domain some.1) r.mask) two.1 in
      (some.0, some.1, some.2, some.3, two.0, three.0, eqb-true (mask_in domain some.1) r.mask three.1)

  -- each record of that gid has the region's mask
  mask_in-region : (r : Region) (k : ℕ) (d : Group) → get_or s.regions domain None ≡ Some r → k < length s.groups → has_region_of (get_or s.groups k d).gid (Some r) ≡ true → mask_in domain (get_or s.groups k d) ≡ r.mask
  mask_in-region r k d is lt' mine =
      let x = holds_region-some r is in
      let gids : (get_or s.groups k x.1).gid.0 ≡ (get_or s.groups x.0 x.1).gid.0 =
      ap (λ (g : Group). g.gid.0) (get_or_default s.groups k x.1 d lt') ∙ sym (eqb-true r.gid.0 (get_or s.groups k d).gid.0 mine) ∙ eqb-true r.gid.0 x.1.gid.0 x.4 ∙ ap (λ (g : Group). g.gid.0) (sym x.3) in
      let place : k ≡ x.0 = place-key gid_number s.groups k x.0 x.1 sound.named.gids lt' x.2 gids in
      ap (mask_in domain) (get_or_default s.groups k d x.1 lt' ∙ ap (λ (n : ℕ). get_or s.groups n x.1) place ∙ x.3) ∙ x.6

  -- a domain's region has the ways of the pseudo-locked records there
  pub region_mask-union : IsUnion (region_mask s.regions domain) (masks_of_others gid Locked domain s.groups)
  region_mask-union way = at (get_or s.regions domain None) refl
    where
      either : (r : Region) → get_or s.regions domain None ≡ Some r → (k : ℕ) (d : Group) → k < length s.groups → has_mode Locked (get_or s.groups k d) ≡ true → has_way r.mask way ≡ false → (b : Bool) → has_region_of (get_or s.groups k d).gid (Some r) ≡ b → has_way (mask_in domain (get_or s.groups k d)) way ≡ false
      either r is k d lt' locked none true mine = ap (λ (n : ℕ). has_way n way) (mask_in-region r k d is lt' mine) ∙ none
      either r is k d lt' locked none false other = has_way-no_region k d (Some r) way lt' locked is other

      others_too : (x : Group) (k : ℕ) → k < length s.groups → get_or s.groups k x ≡ x → has_mode Locked x ≡ true → is_other_in gid Locked x ≡ true
      others_too x k lt' there locked = by_gid gid unlocked
        where
          apart : (a b : Bool) → (a ≡ true → b ≡ false) → b ≡ true → (not a && b) ≡ true
          apart true b f e = absurd (let g : true ≡ false = sym e ∙ f refl in cc)
          apart false b f e = e

          by_gid : (o : Option Gid) → IsUnlocked o s.groups → is_other_in o Locked x ≡ true
          by_gid None u = locked
          by_gid (Some i) u = apart (has_gid i x) (has_mode Locked x) (subst (λ (y : Group). has_gid i y ≡ true → has_mode Locked y ≡ false) there (u k x lt')) locked

      found : (r : Region) → get_or s.regions domain None ≡ Some r → has_way r.mask way ≡ true → list_any (λ (mask : ℕ). has_way mask way) (masks_of_others gid Locked domain s.groups) ≡ true
      found r is has = true_from_ne_false (list_any (λ (mask : ℕ). has_way mask way) (masks_of_others gid Locked domain s.groups)) (λ none.
          let x = holds_region-some r is in
          let out = All-from_mapped (λ (mask : ℕ). has_way mask way) (mask_in domain) (is_other_in gid Locked) s.groups none x.0 x.1 x.2 (ap (is_other_in gid Locked) x.3 ∙ others_too x.1 x.0 x.2 x.3 x.5) in
          let f : true ≡ false = sym has ∙ ap (λ (n : ℕ). has_way n way) (sym x.6) ∙ ap (λ (y : Group). has_way (mask_in domain y) way) (sym x.3) ∙ out in cc)

      by_way : (r : Region) → get_or s.regions domain None ≡ Some r → (b : Bool) → has_way r.mask way ≡ b → has_way r.mask way ≡ list_any (λ (mask : ℕ). has_way mask way) (masks_of_others gid Locked domain s.groups)
      by_way r is true has = has ∙ sym (found r is has)
      by_way r is false none = none ∙ sym (list_any-masks_of_others way (λ k d lt' locked. either r is k d lt' locked none (has_region_of (get_or s.groups k d).gid (Some r)) refl))

      at : (o : Option Region) → get_or s.regions domain None ≡ o → has_way (option_map_or (λ (q : Region). q.mask) (get_or s.regions domain None) 0) way ≡ list_any (λ (mask : ℕ). has_way mask way) (masks_of_others gid Locked domain s.groups)
      at None is = ap (λ (o : Option Region). has_way (option_map_or (λ (q : Region). q.mask) o 0) way) is ∙ has_way-zero 0 way (bit_at-zero way) ∙ sym (list_any-masks_of_others way (λ k d lt' locked. has_way-no_region k d None way lt' locked is refl))
      at (Some r) is = ap (λ (o : Option Region). has_way (option_map_or (λ (q : Region). q.mask) o 0) way) is ∙ by_way r is (has_way r.mask way) refl
