-- The groups that stay when a control group goes, and what is bound to them.
use Rattle.std.proofs.Common.{◌≡◌, ◌≢◌, ℕ, suc, ◌<◌, Bool, true, false, not, cond, eqb, List, [], ◌∷◌, length, map, filter, find, get_or, Option, None, Some, IfSome, inl, inr, refl, sym, subst, ap, ◌∙◌, arith}
use Rattle.std.specs.List.{All, flat_map, slice_get}
use Rattle.std.specs.Option.{option_map, option_map_or}
use Rattle.std.proofs.lemmas.Bool.{eqb-true, eqb-false, eq-eqb, ne_eqb}
use Rattle.std.proofs.lemmas.List.{length-map}
use Rattle.std.proofs.lemmas.List.Elements.{All-append, All-filter, All-map}
use Rattle.std.proofs.lemmas.Option.{slice_get-map}
use Rattle.group_tree.specs.Records.{has_gid, has_mode, is_control, is_monitor_of, mask_in}
use Rattle.group_tree.specs.declared.group.Group.{Group}
use Rattle.group_tree.specs.declared.group_kind.GroupKind.{GroupKind}
use Rattle.group_tree.specs.declared.group_kind.GroupKind.TheVariants.{Control, Monitor}
use Rattle.lists.proofs.Choices.{cond-case, cond-and}
use Rattle.lists.proofs.Keyed.{place-key}
use Rattle.lists.proofs.Tests.{All-kept, IsFound, list_any-kept}
use Rattle.machine.specs.declared.parameters.Parameters.{Parameters}
use Rattle.rc_base.specs.Gids.{default_gid}
use Rattle.rc_base.specs.declared.names.Gid.{Gid}
use Rattle.rc_base.specs.declared.names.Mode.TheVariants.{Locked}
use Rattle.task_binding.specs.declared.binding.Binding.{Binding}
use Rattle.tree_law.proofs.Groups.{IsCounted-default, gid_number}
use Rattle.tree_law.proofs.KeptGroups.{All-rmids_of_found, All-rmids_of, IsCounted-filter, HasNone-filter, AreNumbered-filter}
use Rattle.tree_law.proofs.Limbo.{AreNumbered-limbo_after}
use Rattle.tree_law.specs.Counted.{is_counted}
use Rattle.tree_law.specs.Freeing.{limbo_after, rmids_of, rmids_with}
use Rattle.tree_law.specs.Regions.{HasNoOther, HasOneRegion, HaveRegions, IsRegion, OffCounted, has_region_of, holds_region}
use Rattle.tree_law.specs.Sound.{AreBound, AreNumbered, AreServed, IsBound, IsCounted, IsOf, IsServed, IsSound, IsUsed, monitors}
use Rattle.tree_law.specs.State.{State}
use Rattle.pseudo_lock.specs.declared.region.Region.{Region}
use Rattle.tree_law.specs.commands.Rmdir.{cpu_after, goes_with, region_after, staying}
use Rattle.cpu_binding.specs.Groups as cpu_groups
use Rattle.task_binding.specs.Bindings as bindings
use Rattle.tree_law.proofs.GroupKinds.{is_control-counted, is_control-locked}
use Rattle.tree_law.proofs.laws.TaskNumbers.{AreRising-changed}
use Rattle.group_tree.proofs.laws.Records.{is_monitor_of-control}

module _ (m : Parameters) (s : State) (gid : Gid) (c : Group) (name : Group → Bool) (sound : IsSound m s) (found : IsFound name s.groups c) (is : c.gid ≡ gid) (control : is_control c.kind ≡ true) (other : gid.0 ≢ 0) where
  -- the test of the groups that stay
  abbrev pub keep : Group → Bool
  keep x = not (goes_with gid x)

  -- only that group has its gid
  get_or-has_gid : (k : ℕ) (d : Group) → k < length s.groups → has_gid gid (get_or s.groups k d) ≡ true → get_or s.groups k d ≡ c
  get_or-has_gid k d within e =
      let same : gid.0 ≡ (get_or s.groups k d).gid.0 = eqb-true gid.0 (get_or s.groups k d).gid.0 e in
      let place : k ≡ found.place = place-key gid_number s.groups k found.place d sound.named.gids within found.within (sym same ∙ ap (λ (i : Gid). i.0) (sym is) ∙ ap (λ (x : Group). x.gid.0) (sym (found.at d))) in
      ap (λ (n : ℕ). get_or s.groups n d) place ∙ found.at d

  -- a group with another gid and another parent stays
  pub keep-other : (x : Group) → gid.0 ≢ x.gid.0 → is_monitor_of gid x.kind ≡ false → keep x ≡ true
  keep-other x ne apart = at (has_gid gid x) (is_monitor_of gid x.kind) (ne_eqb gid.0 x.gid.0 ne) apart
    where
      at : (a b : Bool) → a ≡ false → b ≡ false → not (cond a true b) ≡ true
      at true b e f = absurd (let g : true ≡ false = e in cc)
      at false b e f = ap not f

  -- a group that stays has another gid, and another parent
  keep-true : (x : Group) → keep x ≡ true → (gid.0 ≢ x.gid.0) × (is_monitor_of gid x.kind ≡ false)
  keep-true x e = at (has_gid gid x) (is_monitor_of gid x.kind) refl e
    where
      at : (a b : Bool) → has_gid gid x ≡ a → not (cond a true b) ≡ true → (gid.0 ≢ x.gid.0) × (b ≡ false)
      at true b is e = absurd (let f : false ≡ true = e in cc)
      at false true is e = absurd (let f : false ≡ true = e in cc)
      at false false is e = (eqb-false gid.0 x.gid.0 is, refl)

  -- another counted group stays
  IsCounted-staying : (p : Gid) → gid.0 ≢ p.0 → IsCounted s.groups p → IsCounted (staying gid s.groups) p
  IsCounted-staying p ne counted = IsCounted-filter s.groups keep p (λ k d within passes.
      let two = cond-and (has_gid p (get_or s.groups k d)) (is_counted (get_or s.groups k d)) passes in
      keep-other (get_or s.groups k d) (λ e. ne (e ∙ sym (eqb-true p.0 (get_or s.groups k d).gid.0 two.0))) (is_monitor_of-control gid (get_or s.groups k d).kind (is_control-counted (get_or s.groups k d) two.1))) counted

  -- the default group stays counted
  IsCounted-staying_default : IsCounted (staying gid s.groups) (record { 0 = 0 })
  IsCounted-staying_default = IsCounted-staying (record { 0 = 0 }) other (IsCounted-default s.groups s.next_gid sound.named)

  -- the monitor groups of another control group stay
  IsOf-staying : (p monitor : Gid) → gid.0 ≢ p.0 → IsOf s.groups p monitor → IsOf (staying gid s.groups) p monitor
  IsOf-staying p monitor ne (inl e) = inl e
  IsOf-staying p monitor ne (inr some) = inr (list_any-kept (monitors p monitor) keep s.groups (λ k d within passes.
      let two = cond-and (has_gid monitor (get_or s.groups k d)) (is_monitor_of p (get_or s.groups k d).kind) passes in
      keep-other (get_or s.groups k d)
      (λ e. let same = get_or-has_gid k d within (eq-eqb gid.0 (get_or s.groups k d).gid.0 e) in
      let f : true ≡ false = sym two.1 ∙ ap (λ (x : Group). is_monitor_of p x.kind) same ∙ is_monitor_of-control p c.kind control in cc)
      (another (get_or s.groups k d).kind two.1)) some)
    where
      another : (kind : GroupKind) → is_monitor_of p kind ≡ true → is_monitor_of gid kind ≡ false
      another Control e = refl
      another (Monitor q) e = ne_eqb gid.0 q.0 (λ same. ne (same ∙ sym (eqb-true p.0 q.0 e)))

  -- the tasks are bound once those of the removed group are the default group's
  pub AreBound-staying : AreBound (staying gid s.groups) (bindings.changed (bindings.has_control gid) (bindings.joined default_gid) s.tasks)
  AreBound-staying = record {
    rising = AreRising-changed (bindings.has_control gid) (bindings.joined default_gid) s.tasks (λ b. refl) sound.tasks.rising;
    each = All-map (IsBound (staying gid s.groups)) (λ (b : Binding). cond (bindings.has_control gid b) (bindings.joined default_gid b) b) s.tasks
        (λ k d within. cond-case (IsBound (staying gid s.groups)) (bindings.has_control gid (get_or s.tasks k d)) (bindings.joined default_gid (get_or s.tasks k d)) (get_or s.tasks k d)
        (λ e. (IsCounted-staying_default, inl refl))
        (λ e. let b = sound.tasks.each k d within in let ne : gid.0 ≢ (get_or s.tasks k d).control.0 = (λ same. eqb-false (get_or s.tasks k d).control.0 gid.0 e (sym same)) in
        (IsCounted-staying (get_or s.tasks k d).control ne b.0, IsOf-staying (get_or s.tasks k d).control (get_or s.tasks k d).monitor ne b.1)));
  }

  -- the CPUs are served once those of the removed group are the default group's
  pub AreServed-staying : AreServed m (staying gid s.groups) (map (cpu_after gid) s.cpus)
  AreServed-staying = record {
    count = length-map s.cpus (cpu_after gid) ∙ sound.cpus.count;
    each = All-map (IsServed (staying gid s.groups)) (cpu_after gid) s.cpus
        (λ k d within. cond-case (IsServed (staying gid s.groups)) (cpu_groups.has_control gid (get_or s.cpus k d)) cpu_groups.opening_cpu (get_or s.cpus k d)
        (λ e. (IsCounted-staying_default, tt))
        (λ e. let b = sound.cpus.each k d within in let ne : gid.0 ≢ (get_or s.cpus k d).control.0 = (λ same. eqb-false (get_or s.cpus k d).control.0 gid.0 e (sym same)) in
        (IsCounted-staying (get_or s.cpus k d).control ne b.0, monitored (get_or s.cpus k d).control (get_or s.cpus k d).monitor ne b.1)));
  }
    where
      monitored : (p : Gid) (o : Option Gid) → gid.0 ≢ p.0 → IfSome o (IsOf s.groups p) → IfSome o (IsOf (staying gid s.groups) p)
      monitored p None ne i = tt
      monitored p (Some monitor) ne i = IsOf-staying p monitor ne i

  -- the groups that stay are numbered, with the freed RMIDs in limbo
  pub AreNumbered-staying : (looks : List ℕ) → AreNumbered m (staying gid s.groups) (limbo_after m s.threshold s.limbo (rmids_with s gid) looks)
  AreNumbered-staying looks = AreNumbered-limbo_after m (staying gid s.groups) s.threshold (rmids_with s gid) s.limbo looks
      (AreNumbered-filter s.groups keep m s.limbo sound.numbered (λ k d parent within stays kind counted. IsCounted-staying parent (λ e. let f : true ≡ false = sym (eq-eqb gid.0 parent.0 e) ∙ ap (is_monitor_of gid) (sym kind) ∙ (keep-true (get_or s.groups k d) stays).1 in cc) counted))
      (all_freed (λ id. id < m.rmids) (λ k d within e. less (get_or s.groups k d).rmid (sound.numbered.rmids k d within)))
      (HasNone-filter s.groups keep m s.limbo (rmids_with s gid) sound.numbered (λ P each. all_freed P (λ k d within e. each k d within (ap not e))))
    where
      less : (o : Option ℕ) → IfSome o (IsUsed m s.limbo) → IfSome o (λ id. id < m.rmids)
      less None u = tt
      less (Some id) u = u.0

      with_it : (a b : Bool) → a ≡ true → cond a true b ≡ true
      with_it true b e = refl
      with_it false b e = absurd (let f : false ≡ true = e in cc)

      by_parent : (a b : Bool) → b ≡ true → cond a true b ≡ true
      by_parent true b e = refl
      by_parent false b e = e

      all_freed : (P : ℕ → Type 0) → ((k : ℕ) (d : Group) → k < length s.groups → goes_with gid (get_or s.groups k d) ≡ true → IfSome (get_or s.groups k d).rmid P) → All P (rmids_with s gid)
      all_freed P each = All-append P (option_map_or rmids_of (find (has_gid gid) s.groups) []) (flat_map rmids_of (filter (λ (x : Group). is_monitor_of gid x.kind) s.groups))
          (All-rmids_of_found P (has_gid gid) s.groups (λ k d within e. each k d within (with_it (has_gid gid (get_or s.groups k d)) (is_monitor_of gid (get_or s.groups k d).kind) e)))
          (All-rmids_of P (λ (x : Group). is_monitor_of gid x.kind) s.groups (λ k d within e. each k d within (by_parent (has_gid gid (get_or s.groups k d)) (is_monitor_of gid (get_or s.groups k d).kind) e)))

  -- ---- regions

  -- for another group, a region that is gone is none of its own
  has_region_of-region_after : (x : Gid) (o : Option Region) → gid.0 ≢ x.0 → has_region_of x (region_after gid o) ≡ has_region_of x o
  has_region_of-region_after x None ne = refl
  has_region_of-region_after x (Some r) ne = at (eqb r.gid.0 gid.0) refl
    where
      at : (b : Bool) → eqb r.gid.0 gid.0 ≡ b → has_region_of x (cond b None (Some r)) ≡ eqb r.gid.0 x.0
      at true e = sym (ne_eqb r.gid.0 x.0 (λ same. ne (sym (eqb-true r.gid.0 gid.0 e) ∙ same)))
      at false e = refl

  -- another group has as many regions as before
  length-filter_region_after : (x : Gid) (regions : List (Option Region)) → gid.0 ≢ x.0 → length (filter (has_region_of x) (map (region_after gid) regions)) ≡ length (filter (has_region_of x) regions)
  length-filter_region_after x [] ne = refl
  length-filter_region_after x (o ∷ os) ne = at (has_region_of x (region_after gid o)) (has_region_of x o) (has_region_of-region_after x o ne) (length-filter_region_after x os ne)
    where
      at : (a b : Bool) → a ≡ b → length (filter (has_region_of x) (map (region_after gid) os)) ≡ length (filter (has_region_of x) os)
          → length (cond a (region_after gid o ∷ filter (has_region_of x) (map (region_after gid) os)) (filter (has_region_of x) (map (region_after gid) os))) ≡ length (cond b (o ∷ filter (has_region_of x) os) (filter (has_region_of x) os))
      at true true e rest = ap suc rest
      at true false e rest = absurd (let f : true ≡ false = e in cc)
      at false true e rest = absurd (let f : false ≡ true = e in cc)
      at false false e rest = rest

  -- the regions that stay and the records that stay tell each other
  pub HaveRegions-staying : HaveRegions m (staying gid s.groups) (map (region_after gid) s.regions)
  HaveRegions-staying = record {
    each = length-map s.regions (region_after gid) ∙ sound.regions.each;
    lawful = λ domain r there. lawful domain r (slice_get s.regions domain) refl (sym (slice_get-map (region_after gid) s.regions domain) ∙ there);
    once = All-kept (HasOneRegion (map (region_after gid) s.regions)) keep s.groups (λ k d within stays locked. length-filter_region_after (get_or s.groups k d).gid s.regions (keep-true (get_or s.groups k d) stays).0 ∙ sound.regions.once k d within locked);
    no_other = All-kept (HasNoOther (map (region_after gid) s.regions)) keep s.groups (λ k d within stays locked domain lt o there none.
        let less : domain < length s.regions = omega (arith, lt, length-map s.regions (region_after gid)) in
        no_other k d within stays locked domain less o (slice_get s.regions domain) refl (sym (slice_get-map (region_after gid) s.regions domain) ∙ there) none);
  }
    where
      lawful : (domain : ℕ) (r : Region) (o : Option (Option Region)) → slice_get s.regions domain ≡ o → option_map (region_after gid) o ≡ Some (Some r) → IsRegion m (staying gid s.groups) domain r
      lawful domain r None is e = absurd (let f : ◌≡◌ {A = Option (Option Region)} None (Some (Some r)) = e in cc)
      lawful domain r (Some None) is e = absurd (let f : ◌≡◌ {A = Option (Option Region)} (Some None) (Some (Some r)) = e in cc)
      lawful domain r (Some (Some q)) is e = at (eqb q.gid.0 gid.0) refl e
        where
          at : (b : Bool) → eqb q.gid.0 gid.0 ≡ b → ◌≡◌ {A = Option (Option Region)} (Some (cond b None (Some q))) (Some (Some r)) → IsRegion m (staying gid s.groups) domain r
          at true es f = absurd (let g : ◌≡◌ {A = Option (Option Region)} (Some None) (Some (Some r)) = f in cc)
          at false es f = (let same : q ≡ r = (let g : ◌≡◌ {A = Option (Option Region)} (Some (Some q)) (Some (Some r)) = f in cc) in
              let old = sound.regions.lawful domain q is in
              subst (IsRegion m (staying gid s.groups) domain) same (record {
                own = old.own;
                valid = old.valid;
                off_shareable = old.off_shareable;
                off_counted = All-filter keep (OffCounted domain q.mask) s.groups old.off_counted;
                held = list_any-kept (holds_region domain q) keep s.groups (λ k d within passes.
                    let two = cond-and (has_gid q.gid (get_or s.groups k d)) (cond (has_mode Locked (get_or s.groups k d)) (eqb (mask_in domain (get_or s.groups k d)) q.mask) false) passes in
                    let three = cond-and (has_mode Locked (get_or s.groups k d)) (eqb (mask_in domain (get_or s.groups k d)) q.mask) two.1 in
                    keep-other (get_or s.groups k d) (λ e. eqb-false q.gid.0 gid.0 es (eqb-true q.gid.0 (get_or s.groups k d).gid.0 two.0 ∙ sym e)) (is_monitor_of-control gid (get_or s.groups k d).kind (is_control-locked (get_or s.groups k d) three.0))) old.held;
              }))

      no_other : (k : ℕ) (d : Group) → k < length s.groups → keep (get_or s.groups k d) ≡ true → has_mode Locked (get_or s.groups k d) ≡ true → (domain : ℕ) → domain < length s.regions → (o : Option Region) (old : Option (Option Region))
          → slice_get s.regions domain ≡ old → option_map (region_after gid) old ≡ Some o → has_region_of (get_or s.groups k d).gid o ≡ false → mask_in domain (get_or s.groups k d) ≡ 0
      no_other k d within stays locked domain lt o None is e none = absurd (let f : ◌≡◌ {A = Option (Option Region)} None (Some o) = e in cc)
      no_other k d within stays locked domain lt o (Some q) is e none =
          (let same : region_after gid q ≡ o = (let f : Some (region_after gid q) ≡ Some o = e in cc) in
          sound.regions.no_other k d within locked domain lt q is (sym (has_region_of-region_after (get_or s.groups k d).gid q (keep-true (get_or s.groups k d) stays).0) ∙ ap (has_region_of (get_or s.groups k d).gid) same ∙ none))
