-- The directory of a counted group of a sound tree is its own.
use Rattle.std.proofs.Common.{◌≡◌, ℕ, zero, suc, ◌<◌, Bool, true, false, ◌&&◌, cond, List, [], ◌∷◌, length, find, get_or, Option, None, Some, inl, inr, refl, sym, subst, ap, ◌∙◌, arith}
use Rattle.std.specs.Prelude.{is_some, option_and_then, option_map}
use Rattle.std.proofs.lemmas.Bool.{cases_order, eq-eqb, eqb-true}
use Rattle.std.proofs.lemmas.List.Folds.{list_any_at}
use Rattle.group_tree.specs.Records.{has_gid, has_name, is_control, is_control_named}
use Rattle.group_tree.specs.declared.group.Group.{Group}
use Rattle.group_tree.specs.declared.group_kind.GroupKind.{GroupKind}
use Rattle.group_tree.specs.declared.group_kind.GroupKind.TheVariants.{Control, Monitor}
use Rattle.lists.proofs.Choices.{cond-and}
use Rattle.lists.proofs.Keyed.{place-key}
use Rattle.lists.proofs.Tests.{find-found, find-some}
use Rattle.machine.specs.declared.parameters.Parameters.{Parameters}
use Rattle.path_names.specs.declared.names.NameId.{NameId}
use Rattle.rc_base.specs.declared.names.Gid.{Gid}
use Rattle.tree_law.specs.Counted.{is_counted, is_counted_mode}
use Rattle.tree_law.specs.Existing.{dir_exists, group_of}
use Rattle.tree_law.specs.Places.{control_at, only_control}
use Rattle.tree_law.specs.Sound.{AreNamed, IsSound, StandTogether}
use Rattle.tree_law.specs.State.{State}
use Rattle.way_plans.specs.PlanTexts.{named_dir}

-- the number of a group
abbrev pub gid_number : Group → ℕ
gid_number g = g.gid.0

-- the gid of a number
abbrev pub as_gid : ℕ → Gid
as_gid n = record { 0 = n }

-- the name of a number
abbrev as_name : ℕ → NameId
as_name n = record { 0 = n }

-- a counted group is a control group
pub is_control-counted : (x : Group) → is_counted x ≡ true → is_control x.kind ≡ true
is_control-counted x counted = (cond-and (is_control x.kind) (is_counted_mode x.mode) counted).0

-- control groups stand in one directory
StandTogether-control : (a b : GroupKind) → is_control a ≡ true → is_control b ≡ true → StandTogether a b
StandTogether-control Control Control ca cb = tt
StandTogether-control Control (Monitor q) ca cb = absurd (let f : false ≡ true = cb in cc)
StandTogether-control (Monitor p) b ca cb = absurd (let f : false ≡ true = ca in cc)

-- a directory of this name has this name
has_name-some : (name : NameId) (o : Option NameId) → has_name name o ≡ true → o ≡ Some name
has_name-some name None e = absurd (let f : false ≡ true = e in cc)
has_name-some name (Some own) e = ap (λ (n : ℕ). Some (as_name n)) (sym (eqb-true name.0 own.0 e))

-- both tests pass
both-true : (a b : Bool) → (a && b) ≡ true → (a ≡ true) × (b ≡ true)
both-true true b e = (refl, e)
both-true false b e = absurd (let f : false ≡ true = e in cc)

-- what passes alone is found
find-alone : {X : Type 0} (p : X → Bool) (xs : List X) (k : ℕ) (d : X) → k < length xs → p (get_or xs k d) ≡ true → ((j : ℕ) → j < length xs → p (get_or xs j d) ≡ true → j ≡ k) → find p xs ≡ Some (get_or xs k d)
find-alone p xs k d within passes alone =
    let found = find-some p xs (list_any_at p xs k d within passes) in
    let f = find-found p xs found.0 found.1 in
    let place : f.place ≡ k = alone f.place f.within (subst (λ x. p x ≡ true) (sym (f.at d)) f.passes) in
    found.1 ∙ ap Some (sym (f.at d) ∙ ap (λ (n : ℕ). get_or xs n d) place)

-- a control group without a name is the default group
gid-unnamed : (groups : List Group) (next_gid : ℕ) → AreNamed groups next_gid → (k : ℕ) (d : Group) → k < length groups → is_control (get_or groups k d).kind ≡ true → (get_or groups k d).name ≡ None → (get_or groups k d).gid.0 ≡ 0
gid-unnamed [] next_gid named k d within control none = absurd (omega (arith, within))
gid-unnamed (g ∷ gs) next_gid named zero d within control none = named.first.gid
gid-unnamed (g ∷ gs) next_gid named (suc k) d within control none =
    absurd (named.names 0 (suc k) d (omega arith) within (StandTogether-control g.kind (get_or gs k d).kind (is_control-counted g named.first.counted) control) (named.first.name ∙ sym none))

module _ (m : Parameters) (s : State) (sound : IsSound m s) (k : ℕ) (d : Group) (within : k < length s.groups) (counted : is_counted (get_or s.groups k d) ≡ true) where
  -- the group at the place
  abbrev here : Group
  here = get_or s.groups k d

  control : is_control here.kind ≡ true
  control = is_control-counted here counted

  -- it is found by its gid
  pub group_of-own : group_of s here.gid ≡ Some here
  group_of-own = find-alone (has_gid here.gid) s.groups k d within (eq-eqb here.gid.0 here.gid.0 refl)
      (λ j lt passes. place-key gid_number s.groups j k d sound.named.gids lt within (sym (eqb-true here.gid.0 (get_or s.groups j d).gid.0 passes)))

  -- and by its name, where it has one
  find-own_name : (name : NameId) → here.name ≡ Some name → find (is_control_named name) s.groups ≡ Some here
  find-own_name name is = find-alone (is_control_named name) s.groups k d within passes alone
    where
      passes : is_control_named name here ≡ true
      passes = subst (λ (o : Option NameId). (is_control here.kind && has_name name o) ≡ true) (sym is) (subst (λ (b : Bool). (b && has_name name (Some name)) ≡ true) (sym control) (eq-eqb name.0 name.0 refl))

      alone : (j : ℕ) → j < length s.groups → is_control_named name (get_or s.groups j d) ≡ true → j ≡ k
      alone j lt its =
          let other : Group = get_or s.groups j d in
          let both = both-true (is_control other.kind) (has_name name other.name) its in
          let same : other.name ≡ here.name = has_name-some name other.name both.1 ∙ sym is in
          elim (cases_order j k) [
            | inl e ↦ e
            | inr (inl below) ↦ absurd (sound.named.names j k d below within (StandTogether-control other.kind here.kind both.0 control) same)
            | inr (inr above) ↦ absurd (sound.named.names k j d above lt (StandTogether-control here.kind other.kind control both.0) (sym same))
          ]

  -- its directory is there, and leads to it
  pub control_at-own : (control_at s (named_dir here.name) ≡ Some here) × (dir_exists s (named_dir here.name) ≡ true)
  control_at-own = at here.name refl
    where
      only : only_control here ≡ Some here
      only = ap (λ (b : Bool). cond b (Some here) None) control

      at : (o : Option NameId) → here.name ≡ o → (control_at s (named_dir o) ≡ Some here) × (dir_exists s (named_dir o) ≡ true)
      at None is =
          let zero_gid : here.gid ≡ as_gid 0 = ap as_gid (gid-unnamed s.groups s.next_gid sound.named k d within control is) in
          let found : group_of s (as_gid 0) ≡ Some here = subst (λ (gid : Gid). group_of s gid ≡ Some here) zero_gid group_of-own in
          (ap (option_and_then only_control) found ∙ only, refl)
      at (Some name) is =
          let owner : option_map (λ (g : Group). g.gid) (find (is_control_named name) s.groups) ≡ Some here.gid = ap (option_map (λ (g : Group). g.gid)) (find-own_name name is) in
          (ap (λ (o : Option Gid). option_and_then only_control (option_and_then (group_of s) o)) owner ∙ (ap (option_and_then only_control) group_of-own ∙ only), ap is_some owner)
