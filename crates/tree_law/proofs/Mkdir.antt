-- A mkdir keeps a sound tree.
use Rattle.std.proofs.Common.{◌≡◌, ◌≢◌, ℕ, ◌-◌, ◌<◌, Bool, true, false, ◌&&◌, map, find, get_or, replicate, Option, None, Some, IfSome, is_some, is_none, unwrap_or, ◌⊎◌, inl, inr, refl, sym, subst, ap, ◌∙◌, arith, zero-add}
use Rattle.std.specs.List.{All, range_with_len}
use Rattle.std.specs.Option.{option_and_then, option_map, option_map_or}
use Rattle.std.proofs.lemmas.Bool.{eq-eqb}
use Rattle.std.proofs.lemmas.List.{get_or_append_left, length-append, length-replicate}
use Rattle.std.proofs.lemmas.List.FromFn.{get_or-map-range_with_len, length-map-range_with_len}
use Rattle.std.proofs.lemmas.List.Folds.{list_any_at}
use Rattle.std.proofs.lemmas.Option.{slice_get_within, same_Some}
use Rattle.group_tree.specs.Records.{has_gid, has_name, is_control, is_control_named, is_monitor_named, is_monitor_of, mask_in}
use Rattle.group_tree.specs.declared.group.Group.{Group}
use Rattle.group_tree.specs.declared.group_kind.GroupKind.{GroupKind}
use Rattle.group_tree.specs.declared.group_kind.GroupKind.TheVariants.{Control, Monitor}
use Rattle.lists.proofs.Tests.{find-found, find-some, All-from_find}
use Rattle.lists.proofs.Options.{option_map-some}
use Rattle.machine.specs.Ranges.{InRange}
use Rattle.machine.specs.declared.parameters.Parameters.{Parameters}
use Rattle.path_names.specs.declared.dirs.DirRef.TheVariants.{Ctrl, Mon}
use Rattle.path_names.specs.declared.dirs.Owner.{Owner}
use Rattle.path_names.specs.declared.dirs.Owner.TheVariants.{Default as TheDefault, Ctrl as Named}
use Rattle.path_names.specs.declared.names.NameId.{NameId}
use Rattle.path_names.specs.declared.path_ref.PathRef.{PathRef}
use Rattle.path_names.specs.declared.path_ref.PathRef.TheVariants.{Dir}
use Rattle.rc_base.specs.declared.names.Gid.{Gid}
use Rattle.rc_base.specs.declared.names.Mode.TheVariants.{Exclusive, Shareable}
use Rattle.tree_law.proofs.laws.FreeIds.{free_class-some, free_rmid-some, All-range}
use Rattle.tree_law.proofs.Groups.{IsCounted-found, IsCounted-default, is_counted-open}
use Rattle.tree_law.proofs.NewGroup.{with_group-sound, IsCounted-push}
use Rattle.tree_law.proofs.NewMasks.{IsValid-new, AreApart-new_exclusive, AreApart-new_region}
use Rattle.tree_law.specs.Existing.{owner_gid}
use Rattle.tree_law.specs.Masks.{AreApart, IsValid}
use Rattle.tree_law.specs.Places.{is_closed}
use Rattle.tree_law.specs.Sound.{Differ, IsCounted, IsSound, IsUsed, StandTogether}
use Rattle.tree_law.specs.Space.{free_class, free_rmid, full_domain, initial_mask}
use Rattle.tree_law.specs.State.{State}
use Rattle.tree_law.specs.commands.Mkdir.{accepted, initial_masks, new_control, new_monitor, refusal, with_group, with_monitor}
use Rattle.tree_law.proofs.BothSides.{Differ-turned}
use Rattle.tree_law.proofs.AcceptedMkdir.{All-find_none, Free, Free-refusal, is_none-false}

-- a group beside which a name is new has another name
has_name-fresh : (mine : GroupKind → Bool) (kind : GroupKind) (name : NameId) (x : Group) → (StandTogether x.kind kind → mine x.kind ≡ true) → (mine x.kind && has_name name x.name) ≡ false
    → StandTogether x.kind kind → x.name ≢ Some name
has_name-fresh mine kind name x stands none together same = at (mine x.kind) (has_name name x.name) (stands together) (ap (has_name name) same ∙ eq-eqb name.0 name.0 refl) none
  where
    at : (a b : Bool) → a ≡ true → b ≡ true → (a && b) ≡ false → ⊥
    at true true e f g = let h : true ≡ false = g in cc
    at true false e f g = let h : false ≡ true = f in cc
    at false b e f g = let h : false ≡ true = e in cc

-- only control groups stand beside a control group
is_control-beside : (kind : GroupKind) → StandTogether kind Control → is_control kind ≡ true
is_control-beside Control t = refl
is_control-beside (Monitor p) t = absurd t

-- only monitor groups of the same parent stand beside a monitor group
is_monitor_of-beside : (parent : Gid) (kind : GroupKind) → StandTogether kind (Monitor parent) → is_monitor_of parent kind ≡ true
is_monitor_of-beside parent Control t = absurd t
is_monitor_of-beside parent (Monitor p) t = eq-eqb parent.0 p.0 (sym t)

-- each id differs from no id
Differ-none : (o : Option ℕ) → Differ o None
Differ-none None = tt
Differ-none (Some x) = tt

-- ---- a control group

-- a new control group keeps a sound tree
new_control-sound : (m : Parameters) (s : State) (name : NameId) → InRange m → IsSound m s → Free m s (Dir (Ctrl name)) → IsSound m (with_group s (new_control m s name))
new_control-sound m s name range sound free =
    let class = is_none-false (free_class m s) free.classes in
    let rmid = is_none-false (free_rmid m s) free.rmids in
    let class_is = free_class-some m s class.0 class.1 in
    let rmid_is = free_rmid-some m s rmid.0 rmid.1 in
    let names = All-find_none (λ (g : Group). g.gid) (is_control_named name) s.groups free.fresh in
    with_group-sound m s (Some name) Control (free_class m s) (free_rmid m s) (initial_masks m s) sound (record {
      names = λ k d within. has_name-fresh is_control Control name (get_or s.groups k d) (is_control-beside (get_or s.groups k d).kind) (names k d within);
      ids = (ap is_some class.1, ap is_some rmid.1);
      class_exists = subst (λ (o : Option ℕ). IfSome o (λ id. id < m.classes)) (sym class.1) class_is.0;
      rmid_used = subst (λ (o : Option ℕ). IfSome o (IsUsed m s.limbo)) (sym rmid.1) rmid_is.0;
      apart = λ k d within. (
        subst (λ (o : Option ℕ). Differ (get_or s.groups k d).class o) (sym class.1) (Differ-turned (Some class.0) (get_or s.groups k d).class (class_is.1 k d within)),
        subst (λ (o : Option ℕ). Differ (get_or s.groups k d).rmid o) (sym rmid.1) (Differ-turned (Some rmid.0) (get_or s.groups k d).rmid (rmid_is.1 k d within)),
      );
      places = let most = range.domain_limit in omega (arith, most, length-append (map first (range_with_len 0 m.domains)) (replicate (8 - m.domains) 0), length-map-range_with_len first 0 m.domains, length-replicate {A = ℕ} (8 - m.domains) 0);
      valid = λ domain lt c u. let mask = some_mask domain lt in subst (λ (n : ℕ). IsValid m n) (sym (here domain lt mask.0 mask.1)) (IsValid-new m s sound range domain lt mask.0 mask.1);
      masks_apart = λ domain lt k d within counted cn either. let mask = some_mask domain lt in subst (λ (n : ℕ). AreApart (mask_in domain (get_or s.groups k d)) n) (sym (here domain lt mask.0 mask.1))
          (AreApart-new_exclusive m s sound range domain lt mask.0 mask.1 k d within counted (theirs (get_or s.groups k d) either));
      off_regions = λ domain r there cn.
          let lt : domain < m.domains = (let within = slice_get_within s.regions domain (Some r) there in omega (arith, within, sound.regions.each)) in
          let mask = some_mask domain lt in subst (λ (n : ℕ). AreApart r.mask n) (sym (here domain lt mask.0 mask.1)) (AreApart-new_region m s sound range domain lt mask.0 mask.1 r there);
    })
  where
    first : ℕ → ℕ
    first domain = unwrap_or (initial_mask m s domain) 0

    theirs : (x : Group) → (x.mode ≡ Exclusive) ⊎ (Shareable ≡ Exclusive) → x.mode ≡ Exclusive
    theirs x (inl e) = e
    theirs x (inr e) = absurd (let f : Shareable ≡ Exclusive = e in cc)

    there_is : (o : Option ℕ) → is_none o ≡ false → (mask : ℕ) × (o ≡ Some mask)
    there_is None e = absurd (let f : true ≡ false = e in cc)
    there_is (Some mask) e = (mask, refl)

    no_full : (o : Option ℕ) → is_some o ≡ false → o ≡ None
    no_full None e = refl
    no_full (Some x) e = absurd (let f : true ≡ false = e in cc)

    some_mask : (domain : ℕ) → domain < m.domains → (mask : ℕ) × (initial_mask m s domain ≡ Some mask)
    some_mask domain lt = there_is (initial_mask m s domain)
        (All-range (λ d. is_none (initial_mask m s d) ≡ false) m.domains (All-from_find (λ (d : ℕ). is_none (initial_mask m s d)) (range_with_len 0 m.domains) (no_full (full_domain m s) free.space)) domain lt)

    here : (domain : ℕ) → domain < m.domains → (mask : ℕ) → initial_mask m s domain ≡ Some mask → get_or (initial_masks m s) domain 0 ≡ mask
    here domain lt mask is =
        get_or_append_left (map first (range_with_len 0 m.domains)) (replicate (8 - m.domains) 0) 0 domain (omega (arith, lt, length-map-range_with_len first 0 m.domains))
        ∙ get_or-map-range_with_len first 0 m.domains domain domain 0 lt (zero-add domain) ∙ ap (λ (o : Option ℕ). unwrap_or o 0) is

-- ---- a monitor group

-- a parent that is not being locked is counted
IsCounted-parent : (m : Parameters) (s : State) (owner : Owner) (parent : Gid) → IsSound m s → owner_gid s owner ≡ Some parent → is_closed s parent ≡ false → IsCounted s.groups parent
IsCounted-parent m s TheDefault parent sound is opened = subst (IsCounted s.groups) same (IsCounted-default s.groups s.next_gid sound.named)
  where
    same : record { 0 = 0 } ≡ parent
    same = same_Some (record { 0 = 0 }) parent is
IsCounted-parent m s (Named name) parent sound is opened =
    let c = option_map-some (λ (g : Group). g.gid) (find (is_control_named name) s.groups) parent is in
    let f = find-found (is_control_named name) s.groups c.0 c.1 in
    let some = find-some (has_gid parent) s.groups (list_any_at (has_gid parent) s.groups f.place c.0 f.within (ap (has_gid parent) (f.at c.0) ∙ eq-eqb parent.0 c.0.gid.0 (ap (λ (i : Gid). i.0) (sym c.2)))) in
    IsCounted-found parent s.groups some.0 some.1 (is_counted-open s parent some.0 some.1 opened)

-- a new monitor group of a counted parent keeps a sound tree
new_monitor-sound : (m : Parameters) (s : State) (name : NameId) (parent : Gid) → IsSound m s → IsCounted s.groups parent → is_none (free_rmid m s) ≡ false → All (λ x. is_monitor_named parent name x ≡ false) s.groups
    → IsSound m (with_group s (new_monitor m s name parent))
new_monitor-sound m s name parent sound counted rmids names =
    let rmid = is_none-false (free_rmid m s) rmids in
    let rmid_is = free_rmid-some m s rmid.0 rmid.1 in
    with_group-sound m s (Some name) (Monitor parent) None (free_rmid m s) (replicate 8 0) sound (record {
      names = λ k d within. has_name-fresh (is_monitor_of parent) (Monitor parent) name (get_or s.groups k d) (is_monitor_of-beside parent (get_or s.groups k d).kind) (names k d within);
      ids = (refl, ap is_some rmid.1, IsCounted-push m s (Some name) (Monitor parent) None (free_rmid m s) (replicate 8 0) parent counted);
      class_exists = tt;
      rmid_used = subst (λ (o : Option ℕ). IfSome o (IsUsed m s.limbo)) (sym rmid.1) rmid_is.0;
      apart = λ k d within. (Differ-none (get_or s.groups k d).class, subst (λ (o : Option ℕ). Differ (get_or s.groups k d).rmid o) (sym rmid.1) (Differ-turned (Some rmid.0) (get_or s.groups k d).rmid (rmid_is.1 k d within)));
      places = length-replicate {A = ℕ} 8 0;
      valid = λ domain lt c u. absurd (let f : false ≡ true = c in cc);
      masks_apart = λ domain lt k d within c cn either. absurd (let f : false ≡ true = cn in cc);
      off_regions = λ domain r there cn. absurd (let f : false ≡ true = cn in cc);
    })

-- a monitor group of an owner that may be missing keeps a sound tree
with_monitor-sound : (m : Parameters) (s : State) (owner : Owner) (name : NameId) → IsSound m s → Free m s (Dir (Mon owner name)) → IsSound m (with_monitor m s name (owner_gid s owner))
with_monitor-sound m s owner name sound free = at (owner_gid s owner) refl free.fresh free.parent
  where
    at : (o : Option Gid) → owner_gid s owner ≡ o → is_some (option_and_then (λ (parent : Gid). option_map (λ (g : Group). g.gid) (find (is_monitor_named parent name) s.groups)) o) ≡ false → option_map_or (is_closed s) o false ≡ false → IsSound m (with_monitor m s name o)
    at None is fresh closed = sound
    at (Some parent) is fresh closed = new_monitor-sound m s name parent sound (IsCounted-parent m s owner parent sound is closed) free.rmids (All-find_none (λ (g : Group). g.gid) (is_monitor_named parent name) s.groups fresh)

-- an accepted mkdir keeps a sound tree
pub mkdir-sound : (m : Parameters) (s : State) (path : PathRef) → InRange m → IsSound m s → refusal m s path ≡ None → IsSound m (accepted m s path)
unfolding accepted
mkdir-sound m s (Dir (Ctrl name)) range sound none = new_control-sound m s name range sound (Free-refusal m s (Dir (Ctrl name)) none)
mkdir-sound m s (Dir (Mon owner name)) range sound none = with_monitor-sound m s owner name sound (Free-refusal m s (Dir (Mon owner name)) none)
mkdir-sound m s path range sound none = sound
