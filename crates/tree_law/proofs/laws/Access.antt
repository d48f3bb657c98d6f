-- An access has a class, an RMID and a mask of the machine.
use Rattle.std.proofs.Common.{◌≡◌, ℕ, ◌<◌, Bool, true, false, cond, get_or, Option, None, Some, IfSome, IsSome, unwrap_or, inl, inr, refl, sym, subst, ap, ◌∙◌, arith}
use Rattle.std.specs.List.{list_any}
use Rattle.std.specs.Option.{option_and_then, option_map_or}
use Rattle.std.proofs.lemmas.Bool.{eqb-true}
use Rattle.std.proofs.lemmas.List.Folds.{Any-from_list_any, list_any_at}
use Rattle.group_tree.specs.Records.{has_gid, is_control, is_monitor_of, mask_in}
use Rattle.group_tree.specs.declared.group.Group.{Group}
use Rattle.group_tree.specs.declared.group_kind.GroupKind.{GroupKind}
use Rattle.group_tree.specs.declared.group_kind.GroupKind.TheVariants.{Control, Monitor}
use Rattle.lists.proofs.Choices.{cond-both, cond-and}
use Rattle.lists.proofs.Keyed.{place-key}
use Rattle.lists.proofs.Tests.{IsFound, find-found, IsFound-all, find-some}
use Rattle.machine.specs.Maps.{domain_of}
use Rattle.machine.specs.declared.parameters.Parameters.{Parameters}
use Rattle.rc_base.specs.declared.names.Gid.{Gid}
use Rattle.rc_base.specs.declared.names.Mode.{Mode}
use Rattle.rc_base.specs.declared.names.Mode.TheVariants.{Shareable, Exclusive, LockSetup, Locked}
use Rattle.task_binding.specs.Bindings.{binding_of, is_of}
use Rattle.rc_base.specs.Gids.{default_gid, is_default}
use Rattle.task_binding.specs.declared.binding.Binding.{Binding}
use Rattle.tree_law.proofs.Groups.{IsCounted-default, gid_number}
use Rattle.tree_law.proofs.GroupKinds.{is_control-counted}
use Rattle.tree_law.proofs.Schemata.{mode-counted}
use Rattle.tree_law.specs.Counted.{is_counted, is_counted_mode}
use Rattle.tree_law.specs.Existing.{group_of}
use Rattle.tree_law.specs.LawsAccess.{IsGood}
use Rattle.tree_law.specs.Masks.{HasValid, IsValid}
use Rattle.tree_law.specs.Resolving.{class_of, control_of, cpu_groups_of, mask_of_group, monitor_of, owner_of, resolve, rmid_of}
use Rattle.tree_law.specs.Sound.{HasIds, HasIdsOf, IsCounted, IsOf, IsServed, IsSound, IsUsed}
use Rattle.tree_law.specs.State.{State}
use Rattle.cpu_binding.specs.Groups as cpu_groups

module _ (m : Parameters) (s : State) (sound : IsSound m s) where
  -- the record that a test of one gid finds is the one that `find` gives
  pub group_of-one : (gid : Gid) (p : Group → Bool) → list_any (λ (g : Group). cond (has_gid gid g) (p g) false) s.groups ≡ true → (g : Group) × (group_of s gid ≡ Some g) × IsFound (has_gid gid) s.groups g × (p g ≡ true)
  group_of-one gid p some =
      let x = Any-from_list_any (λ (g : Group). cond (has_gid gid g) (p g) false) s.groups some in
      let two = cond-and (has_gid gid x.1) (p x.1) x.4 in
      let y = find-some (has_gid gid) s.groups (list_any_at (has_gid gid) s.groups x.0 x.1 x.2 (ap (has_gid gid) x.3 ∙ two.0)) in
      let f = find-found (has_gid gid) s.groups y.0 y.1 in
      let gids : (get_or s.groups f.place x.1).gid.0 ≡ (get_or s.groups x.0 x.1).gid.0 = ap (λ (g : Group). g.gid.0) (f.at x.1) ∙ sym (eqb-true gid.0 y.0.gid.0 f.passes) ∙ eqb-true gid.0 x.1.gid.0 two.0 ∙ ap (λ (g : Group). g.gid.0) (sym x.3) in
      let place : f.place ≡ x.0 = place-key gid_number s.groups f.place x.0 x.1 sound.named.gids f.within x.2 gids in
      let same : y.0 ≡ x.1 = sym (f.at x.1) ∙ ap (λ (n : ℕ). get_or s.groups n x.1) place ∙ x.3 in
      (y.0, y.1, f, ap p same ∙ two.1)

  -- the ids of a counted group
  pub IsSome-counted : (g : Group) → is_counted g ≡ true → HasIds s.groups g.kind g → IsSome g.class × IsSome g.rmid
  IsSome-counted g counted has = by_kind g.kind has counted
    where
      by_mode : (mode : Mode) → is_counted_mode mode ≡ true → HasIdsOf mode g → IsSome g.class × IsSome g.rmid
      by_mode Shareable c h = h
      by_mode Exclusive c h = h
      by_mode LockSetup c h = absurd (let f : false ≡ true = c in cc)
      by_mode Locked c h = absurd (let f : false ≡ true = c in cc)

      by_kind : (kind : GroupKind) → HasIds s.groups kind g → cond (is_control kind) (is_counted_mode g.mode) false ≡ true → IsSome g.class × IsSome g.rmid
      by_kind Control h c = by_mode g.mode c h
      by_kind (Monitor p) h c = absurd (let f : false ≡ true = c in cc)

  -- the ids of a monitor group
  pub IsSome-monitor : (control : Gid) (g : Group) → is_monitor_of control g.kind ≡ true → HasIds s.groups g.kind g → IsSome g.rmid
  IsSome-monitor control g monitor has = at g.kind monitor has
    where
      at : (kind : GroupKind) → is_monitor_of control kind ≡ true → HasIds s.groups kind g → IsSome g.rmid
      at Control e h = absurd (let f : false ≡ true = e in cc)
      at (Monitor p) e h = h.1

  -- what holds of an option's value holds of the value that is taken out
  unwrap_or-some : (P : ℕ → Type 0) (o : Option ℕ) → IsSome o → IfSome o P → P (unwrap_or o 0)
  unwrap_or-some P None some p = absurd (let f : false ≡ true = some in cc)
  unwrap_or-some P (Some id) some p = p

  -- an RMID that is in use is the machine's
  IfSome-used : (o : Option ℕ) → IfSome o (IsUsed m s.limbo) → IfSome o (λ id. id < m.rmids)
  IfSome-used None u = tt
  IfSome-used (Some id) u = u.0

  -- the class of a counted group is the machine's
  class_of-below : (gid : Gid) → IsCounted s.groups gid → class_of s gid < m.classes
  class_of-below gid counted =
      let g = group_of-one gid is_counted counted in
      subst (λ (o : Option Group). unwrap_or (option_and_then (λ (x : Group). x.class) o) 0 < m.classes) (sym g.1)
      (unwrap_or-some (λ id. id < m.classes) g.0.class (IsSome-counted g.0 g.3 (IsFound-all (λ (x : Group). HasIds s.groups x.kind x) (has_gid gid) s.groups g.0 g.2 sound.numbered.ids)).0
      (IsFound-all (λ (x : Group). IfSome x.class (λ id. id < m.classes)) (has_gid gid) s.groups g.0 g.2 sound.numbered.classes))

  -- the mask of a counted group is valid
  mask_of_group-valid : (gid : Gid) (domain : ℕ) → domain < m.domains → IsCounted s.groups gid → IsValid m (mask_of_group s domain gid)
  mask_of_group-valid gid domain lt counted =
      let g = group_of-one gid is_counted counted in
      subst (λ (o : Option Group). IsValid m (option_map_or (mask_in domain) o 0)) (sym g.1)
      (IsFound-all (HasValid m domain) (has_gid gid) s.groups g.0 g.2 (sound.masks.valid domain lt) (is_control-counted g.0 g.3) (mode-counted g.0 g.3).0)

  -- the RMID of a group that is there is the machine's
  rmid_of-found : (gid : Gid) (g : Group) → group_of s gid ≡ Some g → IsFound (has_gid gid) s.groups g → IsSome g.rmid → rmid_of s gid < m.rmids
  rmid_of-found gid g found f some = subst (λ (o : Option Group). unwrap_or (option_and_then (λ (x : Group). x.rmid) o) 0 < m.rmids) (sym found)
      (unwrap_or-some (λ id. id < m.rmids) g.rmid some (IfSome-used g.rmid (IsFound-all (λ (x : Group). IfSome x.rmid (IsUsed m s.limbo)) (has_gid gid) s.groups g f sound.numbered.rmids)))

  -- the RMID of a task's group is the machine's
  rmid_of-below : (control gid : Gid) → IsCounted s.groups control → IsOf s.groups control gid → rmid_of s gid < m.rmids
  rmid_of-below control gid counted (inl same) =
      let g = group_of-one control is_counted counted in
      subst (λ (i : Gid). rmid_of s i < m.rmids) (ap gid_of (sym same))
      (rmid_of-found control g.0 g.1 g.2 (IsSome-counted g.0 g.3 (IsFound-all (λ (x : Group). HasIds s.groups x.kind x) (has_gid control) s.groups g.0 g.2 sound.numbered.ids)).1)
    where
      gid_of : ℕ → Gid
      gid_of n = record { 0 = n }
  rmid_of-below control gid counted (inr some) =
      let g = group_of-one gid (λ (x : Group). is_monitor_of control x.kind) some in
      rmid_of-found gid g.0 g.1 g.2 (IsSome-monitor control g.0 g.3 (IsFound-all (λ (x : Group). HasIds s.groups x.kind x) (has_gid gid) s.groups g.0 g.2 sound.numbered.ids))

  -- the groups of a task, and of a CPU
  control_of-counted : (task : ℕ) → IsCounted s.groups (control_of s task) × IsOf s.groups (control_of s task) (monitor_of s task)
  control_of-counted task = at (binding_of task s.tasks) refl
    where
      at : (o : Option Binding) → binding_of task s.tasks ≡ o → IsCounted s.groups (option_map_or (λ (b : Binding). b.control) o default_gid) × IsOf s.groups (option_map_or (λ (b : Binding). b.control) o default_gid) (option_map_or (λ (b : Binding). b.monitor) o default_gid)
      at None is = (IsCounted-default s.groups s.next_gid sound.named, inl refl)
      at (Some b) is = IsFound-all (λ (x : Binding). IsCounted s.groups x.control × IsOf s.groups x.control x.monitor) (is_of task) s.tasks b (find-found (is_of task) s.tasks b is) sound.tasks.each

  -- the owner of an access is a counted group
  pub owner_of-counted : (task cpu : ℕ) → cpu < m.cpus → IsCounted s.groups (owner_of s task cpu)
  owner_of-counted task cpu lt =
      let c : IsServed s.groups (cpu_groups_of s cpu) = sound.cpus.each cpu cpu_groups.opening_cpu (omega (arith, lt, sound.cpus.count)) in
      cond-both (IsCounted s.groups) (is_default (control_of s task)) (cpu_groups_of s cpu).control (control_of s task) c.0 (control_of-counted task).0

  -- an access has a class, an RMID and a mask of the machine
  IsGood-resolve : (task cpu : ℕ) → cpu < m.cpus → domain_of m cpu < m.domains → IsGood m (resolve m s task cpu)
  unfolding resolve
  IsGood-resolve task cpu lt exists =
      let t = control_of-counted task in
      let c : IsServed s.groups (cpu_groups_of s cpu) = sound.cpus.each cpu cpu_groups.opening_cpu (omega (arith, lt, sound.cpus.count)) in
      let owner : IsCounted s.groups (owner_of s task cpu) = cond-both (IsCounted s.groups) (is_default (control_of s task)) (cpu_groups_of s cpu).control (control_of s task) c.0 t.0 in
      record {
        class = class_of-below (owner_of s task cpu) owner;
        rmid = cond-both (λ (gid : Gid). rmid_of s gid < m.rmids) (is_default (monitor_of s task)) (unwrap_or (cpu_groups_of s cpu).monitor (cpu_groups_of s cpu).control) (monitor_of s task)
            (of_cpu (cpu_groups_of s cpu).control (cpu_groups_of s cpu).monitor c.0 c.1) (rmid_of-below (control_of s task) (monitor_of s task) t.0 t.1);
        mask = mask_of_group-valid (owner_of s task cpu) (domain_of m cpu) exists owner;
      }
    where
      of_cpu : (control : Gid) (o : Option Gid) → IsCounted s.groups control → IfSome o (IsOf s.groups control) → rmid_of s (unwrap_or o control) < m.rmids
      of_cpu control None counted of = rmid_of-below control control counted (inl refl)
      of_cpu control (Some monitor) counted of = rmid_of-below control monitor counted of

-- in a sound tree each access has a class, an RMID and a mask of the machine
pub resolve-good : (m : Parameters) (s : State) (task cpu : ℕ) → IsSound m s → cpu < m.cpus → domain_of m cpu < m.domains → IsGood m (resolve m s task cpu)
resolve-good m s task cpu sound lt exists = IsGood-resolve m s sound task cpu lt exists
