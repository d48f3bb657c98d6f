-- The control group of a name is not the default group.
use Rattle.std.proofs.Common.{◌≡◌, ◌≢◌, ℕ, zero, suc, ◌<◌, Bool, true, false, ◌&&◌, length, find, get_or, Option, None, Some, IfSome, refl, sym, subst, ap, ◌∙◌, arith}
use Rattle.std.specs.Option.{option_map, option_map_or}
use Rattle.std.proofs.lemmas.Bool.{and_parts, eq-eqb, eqb-true}
use Rattle.std.proofs.lemmas.List.Folds.{list_any_at}
use Rattle.group_tree.specs.Lists.{has_group}
use Rattle.group_tree.specs.Records.{has_gid, has_name, is_control, is_control_named}
use Rattle.group_tree.specs.declared.group.Group.{Group}
use Rattle.lists.proofs.Keyed.{get_or-key, place-key}
use Rattle.lists.proofs.Tests.{IsFound, find-found}
use Rattle.machine.specs.declared.parameters.Parameters.{Parameters}
use Rattle.path_names.specs.declared.names.NameId.{NameId}
use Rattle.rc_base.specs.declared.names.Gid.{Gid}
use Rattle.lists.proofs.Options.{option_map-some}
use Rattle.tree_core.proofs.KeptTables.{IsDefault-first, length-positive}
use Rattle.tree_core.specs.Found.{IsControl}
use Rattle.tree_core.specs.Kept.{Keeps}
use Rattle.tree_core.specs.Tables.{Tables}
use Rattle.tree_core.specs.declared.control.Control.{Control}
use Rattle.tree_law.specs.Existing.{group_of}
use Rattle.tree_law.specs.Sound.{Differ}
use Rattle.tree_law.specs.State.{State}

module _ {m : Parameters} {t : Tables} {s : State} {epoch : ℕ} (keeps : Keeps m t s epoch) where
  abbrev NamedAs : NameId → Gid → Type 0
  NamedAs name gid = option_map (λ (g : Group). g.gid) (find (is_control_named name) s.groups) ≡ Some gid

  -- the group of the name, and its place
  IsFound-named : (name : NameId) (gid : Gid) → NamedAs name gid → (g : Group) × IsFound (is_control_named name) s.groups g × (g.gid ≡ gid)
  IsFound-named name gid named =
      let found = option_map-some (λ (g : Group). g.gid) (find (is_control_named name) s.groups) gid named in
      (found.0, find-found (is_control_named name) s.groups found.0 found.1, found.2)

  -- there is a group with this gid
  pub has_group-named : (name : NameId) (gid : Gid) → NamedAs name gid → has_group gid s.groups ≡ true
  has_group-named name gid named =
      let g = IsFound-named name gid named in
      list_any_at (has_gid gid) s.groups g.1.place g.0 g.1.within (ap (has_gid gid) (g.1.at g.0) ∙ eq-eqb gid.0 g.0.gid.0 (ap (λ (i : Gid). i.0) (sym g.2)))

  -- which is not the default group's
  pub gid-named : (name : NameId) (gid : Gid) → NamedAs name gid → gid.0 ≢ 0
  gid-named name gid named zeroth =
      let g = IsFound-named name gid named in
      let first = IsDefault-first s.groups g.0 keeps.sound.named.first in
      let same : (get_or s.groups g.1.place g.0).gid.0 ≡ (get_or s.groups 0 g.0).gid.0 = ap (λ (x : Group). x.gid.0) (g.1.at g.0) ∙ ap (λ (i : Gid). i.0) g.2 ∙ zeroth ∙ sym first.gid in
      let place : g.1.place ≡ 0 = place-key (λ (x : Group). x.gid.0) s.groups g.1.place 0 g.0 keeps.sound.named.gids g.1.within (length-positive s.groups keeps.sound.named.first) same in
      let is_first : g.0 ≡ get_or s.groups 0 g.0 = sym (g.1.at g.0) ∙ ap (λ (k : ℕ). get_or s.groups k g.0) place in
      let unnamed : g.0.name ≡ None = ap (λ (x : Group). x.name) is_first ∙ first.name in
      nameless (is_control g.0.kind) (rw unnamed at g.1.passes)
    where
      nameless : (b : Bool) → (b && false) ≡ true → ⊥
      nameless true e = let f : false ≡ true = e in cc
      nameless false e = let f : false ≡ true = e in cc

  -- an id of another group than the default group is not 0
  pub id-not_zero : (g : Group) (gid : Gid) (of : Group → Option ℕ) (id : ℕ) → gid.0 ≢ 0 → IsFound (has_gid gid) s.groups g → ((k : ℕ) (d : Group) → 0 < k → k < length s.groups → Differ (of (get_or s.groups 0 d)) (of (get_or s.groups k d)))
      → of (get_or s.groups 0 g) ≡ Some 0 → of g ≡ Some id → id ≢ 0
  id-not_zero g gid of id other f differ first has zeroth = at f.place refl
    where
      at : (k : ℕ) → f.place ≡ k → ⊥
      at zero is = (let same : gid.0 ≡ g.gid.0 = eqb-true gid.0 g.gid.0 f.passes in
          let head : g ≡ get_or s.groups 0 g = sym (f.at g) ∙ ap (λ (k : ℕ). get_or s.groups k g) is in
          other (same ∙ ap (λ (x : Group). x.gid.0) head ∙ (IsDefault-first s.groups g keeps.sound.named.first).gid))
      at (suc k) is = (let apart = differ f.place g (omega arith) f.within in
          let two : Differ (Some 0) (Some id) = subst (λ (x : Option ℕ). Differ (Some 0) x) (ap of (f.at g) ∙ has) (subst (λ (x : Option ℕ). Differ x (of (get_or s.groups f.place g))) first apart) in
          two (sym zeroth))

  -- the group with this gid is the group of the name
  pub IsControlKind-named : (name : NameId) (gid : Gid) (g : Group) → NamedAs name gid → group_of s gid ≡ Some g → is_control g.kind ≡ true
  IsControlKind-named name gid g named found =
      let n = IsFound-named name gid named in
      let key : n.0.gid.0 ≡ gid.0 = ap (λ (i : Gid). i.0) n.2 in
      let passes : has_gid gid (get_or s.groups n.1.place g) ≡ true = ap (has_gid gid) (n.1.at g) ∙ eq-eqb gid.0 n.0.gid.0 (sym key) in
      let same : get_or s.groups n.1.place g ≡ g = get_or-key (λ (x : Group). x.gid.0) s.groups (record g { gid = gid }) g keeps.sound.named.gids found n.1.place g n.1.within passes in
      (and_parts (is_control g.kind) (has_name name g.name) (ap (λ (x : Group). is_control_named name x) (sym same ∙ n.1.at g) ∙ n.1.passes)).0

  -- the class of another group than the default group is not 0
  pub IfSome-not_zero : (g : Group) (gid : Gid) → gid.0 ≢ 0 → group_of s gid ≡ Some g → IfSome g.class (λ class. class ≢ 0)
  IfSome-not_zero g gid other found = at g.class refl
    where
      at : (o : Option ℕ) → g.class ≡ o → IfSome o (λ class. class ≢ 0)
      at None is = tt
      at (Some class) is =
          (let first = IsDefault-first s.groups g keeps.sound.named.first in
          id-not_zero g gid (λ (x : Group). x.class) class other (find-found (has_gid gid) s.groups g found) (λ k d some within. (keeps.sound.numbered.apart 0 k d some within).0) first.class is)

  -- the group of the name is a control group with its class
  pub IsControl-found : (name : NameId) (gid : Gid) (g : Group) → NamedAs name gid → group_of s gid ≡ Some g → IsControl s (record { name = name; gid = gid; class = g.class })
  IsControl-found name gid g named found = record {
    named = named;
    has_class = ap (option_map (λ (x : Group). x.class)) found;
    is_control_kind = ap (λ (o : Option Group). option_map_or (λ (x : Group). is_control x.kind) o false) found ∙ IsControlKind-named name gid g named found;
    other_gid = gid-named name gid named;
    other_class = IfSome-not_zero g gid (gid-named name gid named) found;
  }

-- the record of a control group that was found
pub record ControlAt (s : State) (found : Control) : Type 0 where
  pub group : Group
  pub there : group_of s found.gid ≡ Some group
  pub class : group.class ≡ found.class
  pub kind : is_control group.kind ≡ true

-- a control group that was found has a record
pub ControlAt-found : (s : State) (found : Control) → IsControl s found → ControlAt s found
ControlAt-found s found control =
    let g = option_map-some (λ (x : Group). x.class) (group_of s found.gid) found.class control.has_class in
    record {
      group = g.0;
      there = g.1;
      class = g.2;
      kind = ap (λ (o : Option Group). option_map_or (λ (x : Group). is_control x.kind) o false) (sym g.1) ∙ control.is_control_kind;
    }
