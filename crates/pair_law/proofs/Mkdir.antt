-- A mkdir keeps a sound state.
use Rattle.std.proofs.Common.{◌≡◌, ◌≢◌, ℕ, ◌+◌, ◌-◌, ◌<◌, ◌≤◌, Bool, true, false, cond, eqb, List, [], ◌∷◌, ◌++◌, length, map, find, get_or, replicate, Option, None, Some, IsSomeAnd, is_none, is_some, unwrap_or, ◌⊎◌, inl, inr, refl, sym, subst, ap, ◌∙◌, arith, zero-add}
use Rattle.std.specs.List.{All, list_any, range_with_len, slice_get}
use Rattle.std.proofs.lemmas.Bool.{eq-eqb, eqb-false}
use Rattle.std.proofs.lemmas.List.{get_or_append_left, length-append, length-replicate}
use Rattle.std.proofs.lemmas.List.Elements.{All-push}
use Rattle.std.proofs.lemmas.List.FromFn.{get_or-map-range_with_len, length-map-range_with_len}
use Rattle.std.proofs.lemmas.List.Quantifiers.{all_pairs_push}
use Rattle.std.proofs.lemmas.Bool.{not-true}
use Rattle.lists.proofs.Options.{option_map-none}
use Rattle.lists.proofs.Tests.{All-from_find, All-from_none, list_any-push}
use Rattle.pair_law.proofs.laws.Machines.{domains-few}
use Rattle.pair_law.proofs.NewMasks.{AreApart-new, IsValid-new}
use Rattle.pair_law.proofs.Places.{All-places_of}
use Rattle.pair_law.proofs.laws.Sides.{is_beside-turned, side_machine-beside}
use Rattle.pair_law.specs.Others.{Place, class_is_free, free_class, full_place, initial_mask, places_of}
use Rattle.pair_law.specs.Sound.{HasPlaces, HasValid, IsDefault, IsGroup, IsSound, KeepApart, OffShareable}
use Rattle.pair_law.specs.State.{PairGroup, PairState, group_named, has_gid, has_name, is_same_name, mask_in}
use Rattle.pair_law.specs.commands.Mkdir as mkdir
use Rattle.pair_text.specs.Values.{AreMachines, Machines, class_count, side_machine}
use Rattle.pair_text.specs.declared.side.Side.{Side}
use Rattle.pair_text.specs.declared.side.Side.TheVariants.{First, Second}
use Rattle.rc_base.specs.declared.names.Gid.{Gid}
use Rattle.rc_base.specs.Texts.{is_text}
use Rattle.rc_base.specs.declared.names.Mode.TheVariants.{Exclusive, Shareable}
use Rattle.rc_base.specs.declared.replies.Why.TheVariants.{Exists, OutOfClosids, NoSpace}
use Rattle.machine.specs.declared.parameters.Parameters.{Parameters}
use Rattle.tree_law.proofs.laws.FreeIds.{find-range}
use Rattle.tree_law.specs.Counted.{is_counted_mode}
use Rattle.tree_law.specs.Masks.{AreApart, IsValid}

-- the first of the tests does not pass where nothing is refused, nor do those after it
cond-none : {X : Type 0} (b : Bool) (x : X) (rest : Option X) → cond b (Some x) rest ≡ None → (b ≡ false) × (rest ≡ None)
cond-none true x rest e = absurd (let f : Some x ≡ None = e in cc)
cond-none false x rest e = (refl, e)

record Free (m : Machines) (s : PairState) (name : List ℕ) : Type 0 where
  pub fresh : is_some (group_named s (Some name)) ≡ false
  pub classes : is_none (free_class m s) ≡ false
  pub space : is_some (full_place m s) ≡ false

-- where nothing is refused, name, class and space are free
Free-refusal : (m : Machines) (s : PairState) (name : List ℕ) → mkdir.refusal m s name ≡ None → Free m s name
unfolding mkdir.refusal
Free-refusal m s name none =
    let found = option_map-none (mkdir.with_argument m s) (find (mkdir.against m s name) mkdir.reasons) none in
    let one = cond-none (is_some (group_named s (Some name))) Exists _ found in
    let two = cond-none (is_none (free_class m s)) OutOfClosids _ one.1 in
    let three = cond-none (is_some (full_place m s)) NoSpace _ two.1 in
    record { fresh = one.0; classes = two.0; space = three.0 }

-- an option that is not empty has a value
is_none-false : (o : Option ℕ) → is_none o ≡ false → (id : ℕ) × (o ≡ Some id)
is_none-false None e = absurd (let f : true ≡ false = e in cc)
is_none-false (Some id) e = (id, refl)

is_some-false : {X : Type 0} (o : Option X) → is_some o ≡ false → o ≡ None
is_some-false None e = refl
is_some-false (Some x) e = absurd (let f : true ≡ false = e in cc)

-- a text is itself
is_text-own : (text : List ℕ) → is_text text text ≡ true
unfolding is_text
is_text-own [] = refl
is_text-own (b ∷ bs) = rw (eq-eqb b b refl, is_text-own bs) refl

-- a group that has not this name has another
name-fresh : (name : List ℕ) (x : PairGroup) → has_name (Some name) x ≡ false → x.name ≢ Some name
name-fresh name x fresh e = let f : true ≡ false = sym (ap (is_same_name (Some name)) e ∙ is_text-own name) ∙ fresh in cc

module _ (m : Machines) (s : PairState) (name : List ℕ) (range : AreMachines m) (sound : IsSound m s) (free : Free m s name) where
  abbrev new : PairGroup
  new = mkdir.new_group m s name

  -- its mask on a side in each domain
  first : Side → ℕ → ℕ
  first side d = unwrap_or (initial_mask m s (record { side = side; domain = d })) 0

  some_mask : (side : Side) (domain : ℕ) → domain < (side_machine m side).domains → (mask : ℕ) × (initial_mask m s (record { side = side; domain = domain }) ≡ Some mask)
  some_mask side domain lt = is_none-false (initial_mask m s (record { side = side; domain = domain }))
      (All-places_of m (λ (p : Place). is_none (initial_mask m s p) ≡ false) (All-from_find (λ (p : Place). is_none (initial_mask m s p)) (places_of m) (is_some-false (full_place m s) free.space)) side domain lt)

  here : (side : Side) (domain : ℕ) → domain < (side_machine m side).domains → (mask : ℕ) → initial_mask m s (record { side = side; domain = domain }) ≡ Some mask → get_or (mkdir.initial_masks m s side) domain 0 ≡ mask
  here side domain lt mask is =
      let n : ℕ = (side_machine m side).domains in
      let f : ℕ → ℕ = λ d. unwrap_or (initial_mask m s (record { side = side; domain = d })) 0 in
      get_or_append_left (map f (range_with_len 0 n)) (replicate (8 - n) 0) 0 domain (omega (arith, lt, length-map-range_with_len f 0 n))
      ∙ (get_or-map-range_with_len f 0 n domain domain 0 lt (zero-add domain) ∙ ap (λ (o : Option ℕ). unwrap_or o 0) is)

  mask-new : (side : Side) (domain : ℕ) → domain < (side_machine m side).domains → (mask : ℕ) × (initial_mask m s (record { side = side; domain = domain }) ≡ Some mask) × (mask_in side domain new ≡ mask)
  mask-new First domain lt = let mask = some_mask First domain lt in (mask.0, mask.1, here First domain lt mask.0 mask.1)
  mask-new Second domain lt = let mask = some_mask Second domain lt in (mask.0, mask.1, here Second domain lt mask.0 mask.1)

  places-on : (side : Side) → length (mkdir.initial_masks m s side) ≡ 8
  places-on side =
      let n : ℕ = (side_machine m side).domains in
      let f : ℕ → ℕ = λ d. unwrap_or (initial_mask m s (record { side = side; domain = d })) 0 in
      let most : n ≤ 8 = domains-few m range side in
      omega (arith, most, length-append (map f (range_with_len 0 n)) (replicate (8 - n) 0), length-map-range_with_len f 0 n, length-replicate {A = ℕ} (8 - n) 0)

  HasPlaces-new : HasPlaces new
  HasPlaces-new First = places-on First
  HasPlaces-new Second = places-on Second

  -- its class
  class-new : (id : ℕ) × (free_class m s ≡ Some id) × (new.class ≡ id) × (id < class_count m) × All (λ (x : PairGroup). x.class ≢ id) s.groups
  class-new =
      let c = is_none-false (free_class m s) free.classes in
      let f = find-range (class_is_free s) (class_count m) c.0 c.1 in
      (c.0, c.1, ap (λ (o : Option ℕ). unwrap_or o 0) c.1, f.0, λ k d within. eqb-false (get_or s.groups k d).class c.0 (All-from_none (λ (x : PairGroup). eqb x.class c.0) s.groups (not-true (list_any (λ (x : PairGroup). eqb x.class c.0) s.groups) f.1) k d within))

  IsGroup-push : (gid : Gid) → IsGroup s.groups gid → IsGroup (s.groups ++ new ∷ []) gid
  IsGroup-push gid there = list_any-push (has_gid gid) s.groups new there

  first-push : (gs : List PairGroup) → IsSomeAnd (slice_get gs 0) IsDefault → IsSomeAnd (slice_get (gs ++ new ∷ []) 0) IsDefault
  first-push [] f = absurd f
  first-push (x ∷ xs) f = f

  HasValid-new : HasValid m new
  HasValid-new side domain lt =
      let mask = mask-new side domain lt in
      subst (λ (n : ℕ). IsValid (side_machine m side) n) (sym mask.2) (IsValid-new m s sound range (record { side = side; domain = domain }) lt mask.0 mask.1)

  KeepApart-new : (k : ℕ) (d : PairGroup) → k < length s.groups → KeepApart m (get_or s.groups k d) new
  KeepApart-new k d within = λ one other domain beside lt either.
      let there : domain < (side_machine m other).domains = subst (λ (p : Parameters). domain < p.domains) (side_machine-beside m one other beside) lt in
      let mask = mask-new other domain there in
      subst (λ (n : ℕ). AreApart (mask_in one domain (get_or s.groups k d)) n) (sym mask.2)
      (AreApart-new m s sound range (record { side = other; domain = domain }) there mask.0 mask.1 k d within (theirs (get_or s.groups k d) either) one (is_beside-turned m.l2 one other beside))
    where
      theirs : (x : PairGroup) → (x.mode ≡ Exclusive) ⊎ (Shareable ≡ Exclusive) → x.mode ≡ Exclusive
      theirs x (inl e) = e
      theirs x (inr e) = absurd (let f : Shareable ≡ Exclusive = e in cc)

  below-new : (a : ℕ) → a < s.next_gid → a ≢ s.next_gid
  below-new a lt = λ e. omega arith

  mkdir-new : IsSound m (mkdir.accepted m s name)
  unfolding mkdir.accepted
  mkdir-new = record {
    named = record {
      first = first-push s.groups sound.named.first;
      gids = all_pairs_push (λ (a b : PairGroup). a.gid.0 ≢ b.gid.0) s.groups new sound.named.gids (λ k d within. below-new (get_or s.groups k d).gid.0 (sound.named.serial k d within));
      serial = All-push (λ (x : PairGroup). x.gid.0 < s.next_gid + 1) s.groups new (λ k d within. (let lt = sound.named.serial k d within in omega arith)) (omega arith);
      names = all_pairs_push (λ (a b : PairGroup). a.name ≢ b.name) s.groups new sound.named.names (λ k d within. name-fresh name (get_or s.groups k d) (All-from_find (has_name (Some name)) s.groups (is_some-false (group_named s (Some name)) free.fresh) k d within));
      modes = All-push (λ (x : PairGroup). is_counted_mode x.mode ≡ true) s.groups new sound.named.modes refl;
    };
    classes = (let c = class-new in record {
      exist = All-push (λ (x : PairGroup). x.class < class_count m) s.groups new sound.classes.exist (subst (λ n. n < class_count m) (sym c.2) c.3);
      apart = all_pairs_push (λ (a b : PairGroup). a.class ≢ b.class) s.groups new sound.classes.apart (λ k d within. subst (λ n. (get_or s.groups k d).class ≢ n) (sym c.2) (c.4 k d within));
    });
    masks = record {
      places = All-push HasPlaces s.groups new sound.masks.places HasPlaces-new;
      valid = All-push (HasValid m) s.groups new sound.masks.valid HasValid-new;
      apart = all_pairs_push (KeepApart m) s.groups new sound.masks.apart KeepApart-new;
      off_shareable = All-push (OffShareable m) s.groups new sound.masks.off_shareable (λ side domain lt e. absurd (let f : Shareable ≡ Exclusive = e in cc));
    };
    tasks = record { rising = sound.tasks.rising; each = λ k d within. IsGroup-push (get_or s.tasks k d).control (sound.tasks.each k d within) };
  }

-- an accepted mkdir keeps a sound state
pub mkdir-sound : (m : Machines) (s : PairState) (name : List ℕ) → AreMachines m → IsSound m s → mkdir.refusal m s name ≡ None → IsSound m (mkdir.accepted m s name)
mkdir-sound m s name range sound none = mkdir-new m s name range sound (Free-refusal m s name none)
