-- A counted group with other masks, in one of the counted modes: what the tests of overlaps give.
use Rattle.std.proofs.Common.{◌≡◌, ◌≢◌, ℕ, suc, ◌<◌, Bool, true, false, not, ◌&&◌, ◌||◌, eqb, List, [], ◌∷◌, length, find, get_or, set, Option, Some, Ok, ◌⊎◌, inl, inr, refl, sym, subst, ap, ◌∙◌, arith, length-set}
use Rattle.std.specs.List.{slice_get}
use Rattle.std.proofs.lemmas.Bool.{eqb-true, eqb-false, or_parts}
use Rattle.std.proofs.lemmas.List.{get_or-set_same, get_or-set_other}
use Rattle.std.proofs.lemmas.Option.{slice_get_within}
use Rattle.cbm.specs.Masks.{overlaps}
use Rattle.group_tree.specs.Records.{has_gid, has_mode, is_control, mask_in}
use Rattle.group_tree.specs.declared.group.Group.{Group}
use Rattle.lists.proofs.Keyed.{AllPairs-beside}
use Rattle.lists.proofs.Tests.{IsFound, find-found, IsFound-all}
use Rattle.machine.specs.declared.parameters.Parameters.{Parameters}
use Rattle.mode_rules.specs.Overlaps.{is_apart, keeps_apart, leaving_overlap, overlaps_counted, write_overlap}
use Rattle.rc_base.specs.declared.names.Mode.{Mode}
use Rattle.rc_base.specs.declared.names.Mode.TheVariants.{Shareable, Exclusive, Locked}
use Rattle.schemata_text.specs.declared.assignment.Assignment.{Assignment}
use Rattle.tree_law.proofs.Groups.{gid_number}
use Rattle.tree_law.proofs.NewRecords.{after, HaveMasks-replaced, new_record, HaveRegions-replaced}
use Rattle.tree_law.proofs.BothSides.{KeepApart-turned}
use Rattle.tree_law.proofs.laws.Refusals.{cond-Ok}
use Rattle.tree_law.proofs.laws.Unions.{AreApart-each, AreApart-region, has_mode-counted, has_mode-exclusive, is_other_in-mode}
use Rattle.tree_law.specs.Counted.{is_counted}
use Rattle.tree_law.specs.Masks.{AreApart, HasValid, HaveMasks, IsValid, KeepApart, OffShareable}
use Rattle.tree_law.specs.Regions.{HaveRegions, OffCounted}
use Rattle.tree_law.specs.Sound.{IsSound}
use Rattle.tree_law.specs.Space.{used_in}
use Rattle.tree_law.specs.State.{State}
use Rattle.pseudo_lock.specs.declared.region.Region.{Region}
use Rattle.tree_law.specs.commands.Schemata.{assigned}
use Rattle.mode_rules.specs.declared.overlap.Overlap.TheVariants as overlap

-- masks that are assigned one by one are each as they should be
pub get_or-assigned : (P : ℕ → ℕ → Type 0) (n : ℕ) (all : List Assignment) (masks : List ℕ) → length masks ≡ 8
    → ((k : ℕ) (d : Assignment) → k < length all → ((get_or all k d).domain < 8) × P (get_or all k d).domain (get_or all k d).mask)
    → ((domain : ℕ) → domain < n → P domain (get_or masks domain 0)) → (domain : ℕ) → domain < n → P domain (get_or (assigned masks all) domain 0)
get_or-assigned P n [] masks places each old = old
get_or-assigned P n (a ∷ all) masks places each old = get_or-assigned P n all (set masks a.domain a.mask) (length-set masks a.domain a.mask ∙ places) (λ k d within. each (suc k) d (omega arith)) (λ domain lt. at domain lt (eqb domain a.domain) refl)
  where
    at : (domain : ℕ) → domain < n → (b : Bool) → eqb domain a.domain ≡ b → P domain (get_or (set masks a.domain a.mask) domain 0)
    at domain lt true is = (let one = each 0 a (omega arith) in let same : domain ≡ a.domain = eqb-true domain a.domain is in
        subst (λ (k : ℕ). P k (get_or (set masks a.domain a.mask) k 0)) (sym same) (subst (P a.domain) (sym (get_or-set_same masks a.domain a.mask 0 (omega (arith, places, one.0)))) one.1))
    at domain lt false is = subst (P domain) (sym (get_or-set_other masks a.domain domain a.mask 0 (eqb-false domain a.domain is))) (old domain lt)

-- assignments keep the number of masks
pub length-assigned : (all : List Assignment) (masks : List ℕ) → length (assigned masks all) ≡ length masks
length-assigned [] masks = refl
length-assigned (a ∷ all) masks = length-assigned all (set masks a.domain a.mask) ∙ length-set masks a.domain a.mask

module _ (m : Parameters) (s : State) (g : Group) (sound : IsSound m s) (found : find (has_gid g.gid) s.groups ≡ Some g) where
  -- a mask in a domain that a group in this mode may have AllPairs-beside gid_number the others
  pub record FitsBeside (mode : Mode) (domain mask : ℕ) : Type 0 where
    pub valid : IsValid m mask
    pub apart : (k : ℕ) (d : Group) → k < length s.groups → has_gid g.gid (get_or s.groups k d) ≡ false → is_counted (get_or s.groups k d) ≡ true → (mode ≡ Exclusive) ⊎ ((get_or s.groups k d).mode ≡ Exclusive) → AreApart mask (mask_in domain (get_or s.groups k d))
    pub off : mode ≡ Exclusive → AreApart mask m.shareable
    pub region : (r : Region) → slice_get s.regions domain ≡ Some (Some r) → AreApart r.mask mask

  -- the group is found by its gid
  IsFound-gid : IsFound (has_gid g.gid) s.groups g
  IsFound-gid = find-found (has_gid g.gid) s.groups g found

  -- its mask as it is fits its mode
  pub FitsBeside-old : is_control g.kind ≡ true → g.mode ≢ Locked → is_counted g ≡ true → (domain : ℕ) → domain < m.domains → FitsBeside g.mode domain (mask_in domain g)
  FitsBeside-old control unlocked counted domain lt = record {
    valid = IsFound-all (HasValid m domain) (has_gid g.gid) s.groups g IsFound-gid (sound.masks.valid domain lt) control unlocked;
    apart = λ k d within other cx either. AllPairs-beside gid_number s.groups g g sound.named.gids found (KeepApart domain) (KeepApart-turned domain) (sound.masks.apart domain lt) k d within other counted cx either;
    off = λ exclusive. IsFound-all (OffShareable m domain) (has_gid g.gid) s.groups g IsFound-gid (sound.masks.off_shareable domain lt) counted exclusive;
    region = λ r there. IsFound-all (OffCounted domain r.mask) (has_gid g.gid) s.groups g IsFound-gid (sound.regions.lawful domain r there).off_counted counted;
  }

  -- a mask that is apart from the others' exclusive masks and from the region, and in an exclusive group from all others
  FitsBeside-when : (mode : Mode) (domain mask : ℕ) → IsValid m mask → overlaps mask (used_in m s (Some g.gid) domain).exclusive ≡ false → overlaps mask (used_in m s (Some g.gid) domain).region ≡ false
      → (mode ≡ Exclusive → (overlaps mask (used_in m s (Some g.gid) domain).shared ≡ false) × (overlaps mask m.shareable ≡ false)) → FitsBeside mode domain mask
  FitsBeside-when mode domain mask valid exclusive region more = record {
    valid = valid;
    apart = λ k d within other counted either. at k d within other (has_mode-counted (get_or s.groups k d) counted) either counted;
    off = λ is. (more is).1;
    region = λ r there. AreApart-region mask domain s.regions r region there;
  }
    where
      by_exclusive : (k : ℕ) (d : Group) → k < length s.groups → has_gid g.gid (get_or s.groups k d) ≡ false → has_mode Exclusive (get_or s.groups k d) ≡ true → AreApart mask (mask_in domain (get_or s.groups k d))
      by_exclusive k d within other is = AreApart-each mask domain s.groups (Some g.gid) Exclusive exclusive k d within (is_other_in-mode g.gid Exclusive (get_or s.groups k d) other is)

      at : (k : ℕ) (d : Group) → k < length s.groups → has_gid g.gid (get_or s.groups k d) ≡ false → (has_mode Shareable (get_or s.groups k d) ≡ true) ⊎ (has_mode Exclusive (get_or s.groups k d) ≡ true)
          → (mode ≡ Exclusive) ⊎ ((get_or s.groups k d).mode ≡ Exclusive) → is_counted (get_or s.groups k d) ≡ true → AreApart mask (mask_in domain (get_or s.groups k d))
      at k d within other (inr is) either counted = by_exclusive k d within other is
      at k d within other (inl is) (inl e) counted = AreApart-each mask domain s.groups (Some g.gid) Shareable (more e).0 k d within (is_other_in-mode g.gid Shareable (get_or s.groups k d) other is)
      at k d within other (inl is) (inr e) counted = by_exclusive k d within other (has_mode-exclusive (get_or s.groups k d) counted e)

  -- a mask against which nothing stands, in a write to a counted group
  pub FitsBeside-written : (mode : Mode) (domain mask : ℕ) (u : Unit {0}) → IsValid m mask → write_overlap mode mask (used_in m s (Some g.gid) domain) ≡ Ok u → FitsBeside mode domain mask
  unfolding write_overlap
  FitsBeside-written mode domain mask u valid is =
      let used = used_in m s (Some g.gid) domain in
      let one = cond-Ok (overlaps mask used.exclusive) overlap.Exclusive _ u is in
      let two = cond-Ok (overlaps mask used.region) overlap.Region _ u one.1 in
      let three = cond-Ok (keeps_apart mode && overlaps_counted mask used) overlap.Other _ u two.1 in
      let four = cond-Ok (keeps_apart mode && overlaps mask used.hardware) overlap.Hardware _ u three.1 in
      FitsBeside-when mode domain mask valid one.0 two.0 (λ e. more (keeps_apart mode) (ap keeps_apart e) (overlaps mask used.shared) (overlaps mask used.exclusive) (overlaps mask used.hardware) three.0 four.0)
    where
      more : (b : Bool) → b ≡ true → (x y z : Bool) → (b && (x || y)) ≡ false → (b && z) ≡ false → (x ≡ false) × (z ≡ false)
      more true e x y z first second = ((or_parts x y first).0, second)
      more false e x y z first second = absurd (let f : false ≡ true = e in cc)

  -- a mask that a group kept in pseudo-locksetup, where nothing stands against it
  pub FitsBeside-leaving : (mode : Mode) (domain mask : ℕ) (u : Unit {0}) → IsValid m mask → leaving_overlap mask (used_in m s (Some g.gid) domain) ≡ Ok u
      → (mode ≡ Exclusive → is_apart mask (used_in m s (Some g.gid) domain) ≡ true) → FitsBeside mode domain mask
  unfolding leaving_overlap is_apart
  FitsBeside-leaving mode domain mask u valid is apart =
      let used = used_in m s (Some g.gid) domain in
      let one = cond-Ok (overlaps mask used.exclusive) overlap.Exclusive _ u is in
      let two = cond-Ok (overlaps mask used.region) overlap.Region _ u one.1 in
      FitsBeside-when mode domain mask valid one.0 two.0 (λ e. more (overlaps mask used.shared) (overlaps mask used.exclusive) (overlaps mask used.hardware) (apart e))
    where
      more : (x y z : Bool) → (not (x || y) && not z) ≡ true → (x ≡ false) × (z ≡ false)
      more false false false e = (refl, refl)
      more false false true e = absurd (let f : false ≡ true = e in cc)
      more false true z e = absurd (let f : false ≡ true = e in cc)
      more true y z e = absurd (let f : false ≡ true = e in cc)

  -- a mask that fits a counted mode fits a shareable group
  pub FitsBeside-shared : (domain mask : ℕ) → FitsBeside g.mode domain mask → FitsBeside Shareable domain mask
  FitsBeside-shared domain mask old = record {
    valid = old.valid;
    apart = λ k d within other counted either. old.apart k d within other counted (theirs k d either);
    off = λ e. absurd (let f : Shareable ≡ Exclusive = e in cc);
    region = old.region;
  }
    where
      theirs : (k : ℕ) (d : Group) → (Shareable ≡ Exclusive) ⊎ ((get_or s.groups k d).mode ≡ Exclusive) → (g.mode ≡ Exclusive) ⊎ ((get_or s.groups k d).mode ≡ Exclusive)
      theirs k d (inl e) = absurd (let f : Shareable ≡ Exclusive = e in cc)
      theirs k d (inr e) = inr e

  -- a counted mask that is apart fits an exclusive group
  pub FitsBeside-exclusive : (domain mask : ℕ) → FitsBeside g.mode domain mask → is_apart mask (used_in m s (Some g.gid) domain) ≡ true → FitsBeside Exclusive domain mask
  unfolding is_apart
  FitsBeside-exclusive domain mask old apart =
      let used = used_in m s (Some g.gid) domain in
      let all = parts (overlaps mask used.shared) (overlaps mask used.exclusive) (overlaps mask used.hardware) apart in record {
        valid = old.valid;
        apart = λ k d within other counted either. at k d within other all.0 all.1 (has_mode-counted (get_or s.groups k d) counted);
        off = λ is. all.2;
        region = old.region;
      }
    where
      parts : (x y z : Bool) → (not (x || y) && not z) ≡ true → (x ≡ false) × (y ≡ false) × (z ≡ false)
      parts false false false e = (refl, refl, refl)
      parts false false true e = absurd (let f : false ≡ true = e in cc)
      parts false true z e = absurd (let f : false ≡ true = e in cc)
      parts true y z e = absurd (let f : false ≡ true = e in cc)

      at : (k : ℕ) (d : Group) → k < length s.groups → has_gid g.gid (get_or s.groups k d) ≡ false → overlaps mask (used_in m s (Some g.gid) domain).shared ≡ false → overlaps mask (used_in m s (Some g.gid) domain).exclusive ≡ false
          → (has_mode Shareable (get_or s.groups k d) ≡ true) ⊎ (has_mode Exclusive (get_or s.groups k d) ≡ true) → AreApart mask (mask_in domain (get_or s.groups k d))
      at k d within other shared exclusive (inl is) = AreApart-each mask domain s.groups (Some g.gid) Shareable shared k d within (is_other_in-mode g.gid Shareable (get_or s.groups k d) other is)
      at k d within other shared exclusive (inr is) = AreApart-each mask domain s.groups (Some g.gid) Exclusive exclusive k d within (is_other_in-mode g.gid Exclusive (get_or s.groups k d) other is)

  -- ---- the groups and the regions after a change

  module _ (mode : Mode) (class rmid : Option ℕ) (masks : List ℕ) (places : length masks ≡ 8) (fits : (domain : ℕ) → domain < m.domains → FitsBeside mode domain (get_or masks domain 0)) where
    pub HaveMasks-fitting : HaveMasks m (after s.groups g mode class rmid masks sound.named.gids found)
    HaveMasks-fitting = HaveMasks-replaced s.groups g mode class rmid masks sound.named.gids found m sound.masks places
        (λ domain lt control unlocked. (fits domain lt).valid)
        (λ domain lt k d within other keep cn cx either. (fits domain lt).apart k d within other cx either)
        (λ domain lt counted exclusive. (fits domain lt).off exclusive)

    pub HaveRegions-fitting : has_mode Locked g ≡ false → has_mode Locked (new_record s.groups g mode class rmid masks sound.named.gids found) ≡ false → HaveRegions m (after s.groups g mode class rmid masks sound.named.gids found) s.regions
    HaveRegions-fitting was is = HaveRegions-replaced s.groups g mode class rmid masks sound.named.gids found m s.regions sound.regions was is
        (λ domain r there counted. (fits domain (let within = slice_get_within s.regions domain (Some r) there in omega (arith, within, sound.regions.each))).region r there)
