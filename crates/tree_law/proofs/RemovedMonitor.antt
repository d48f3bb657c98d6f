-- A monitor group is removed: the tree stays sound.
use Rattle.std.proofs.Common.{◌≡◌, ◌≢◌, ℕ, ◌<◌, Bool, true, false, not, cond, eqb, List, [], length, find, get_or, Option, None, Some, IfSome, inl, inr, refl, sym, ap, ◌∙◌}
use Rattle.std.specs.List.{All}
use Rattle.std.specs.Option.{option_map_or}
use Rattle.std.proofs.lemmas.Bool.{eqb-true, eqb-false, ne_eqb}
use Rattle.std.proofs.lemmas.List.{length-map}
use Rattle.std.proofs.lemmas.List.Elements.{All-filter, All-map}
use Rattle.group_tree.specs.Lists.{without}
use Rattle.group_tree.specs.Records.{has_gid, has_mode, is_control, is_monitor_of, mask_in}
use Rattle.group_tree.specs.declared.group.Group.{Group}
use Rattle.lists.proofs.Choices.{cond-case, cond-and}
use Rattle.lists.proofs.Keyed.{place-key}
use Rattle.lists.proofs.Tests.{IsFound, list_any-kept}
use Rattle.machine.specs.declared.parameters.Parameters.{Parameters}
use Rattle.rc_base.specs.declared.names.Gid.{Gid}
use Rattle.rc_base.specs.declared.names.Mode.TheVariants.{Locked}
use Rattle.task_binding.specs.declared.binding.Binding.{Binding}
use Rattle.tree_law.proofs.Groups.{gid_number}
use Rattle.tree_law.proofs.KeptGroups.{All-rmids_of_found, IsCounted-filter, HaveMasks-filter, AreNamed-filter, HasNone-filter, AreNumbered-filter}
use Rattle.tree_law.proofs.Limbo.{AreNumbered-limbo_after}
use Rattle.tree_law.specs.Counted.{is_counted}
use Rattle.tree_law.specs.Freeing.{rmids_of}
use Rattle.tree_law.specs.Regions.{HasNoOther, HasOneRegion, OffCounted, holds_region}
use Rattle.tree_law.specs.Sound.{IsBound, IsCounted, IsDefault, IsOf, IsServed, IsSound, IsUsed, monitors}
use Rattle.tree_law.specs.State.{State}
use Rattle.tree_law.specs.commands.Rmdir.{cpu_uncounted, uncounted, without_monitor}
use Rattle.cpu_binding.specs.Groups as cpu_groups
use Rattle.task_binding.specs.Bindings as bindings
use Rattle.tree_law.proofs.GroupKinds.{is_control-counted, is_control-locked}
use Rattle.tree_law.proofs.laws.TaskNumbers.{AreRising-changed}

-- ---- a monitor group

module _ (m : Parameters) (s : State) (gid : Gid) (c : Group) (name : Group → Bool) (sound : IsSound m s) (found : IsFound name s.groups c) (is : c.gid ≡ gid) (monitor : is_control c.kind ≡ false) (other : gid.0 ≢ 0) where
  -- the test of the groups that stay
  abbrev keeps : Group → Bool
  keeps x = not (has_gid gid x)

  -- only that group has its gid
  get_or-has_gid : (k : ℕ) (d : Group) → k < length s.groups → has_gid gid (get_or s.groups k d) ≡ true → get_or s.groups k d ≡ c
  get_or-has_gid k d within e =
      let same : gid.0 ≡ (get_or s.groups k d).gid.0 = eqb-true gid.0 (get_or s.groups k d).gid.0 e in
      let place : k ≡ found.place = place-key gid_number s.groups k found.place d sound.named.gids within found.within (sym same ∙ ap (λ (i : Gid). i.0) (sym is) ∙ ap (λ (x : Group). x.gid.0) (sym (found.at d))) in
      ap (λ (n : ℕ). get_or s.groups n d) place ∙ found.at d

  -- control groups stay
  keeps-control : (k : ℕ) (d : Group) → k < length s.groups → is_control (get_or s.groups k d).kind ≡ true → keeps (get_or s.groups k d) ≡ true
  keeps-control k d within control = at (has_gid gid (get_or s.groups k d)) refl
    where
      at : (b : Bool) → has_gid gid (get_or s.groups k d) ≡ b → not b ≡ true
      at true e = absurd (let f : true ≡ false = sym control ∙ ap (λ (x : Group). is_control x.kind) (get_or-has_gid k d within e) ∙ monitor in cc)
      at false e = refl

  -- a counted group stays counted
  IsCounted-without : (p : Gid) → IsCounted s.groups p → IsCounted (without gid s.groups) p
  IsCounted-without p counted = IsCounted-filter s.groups keeps p (λ k d within passes. keeps-control k d within (is_control-counted (get_or s.groups k d) (cond-and (has_gid p (get_or s.groups k d)) (is_counted (get_or s.groups k d)) passes).1)) counted

  -- another monitor group stays one of its parent
  IsOf-without : (p other : Gid) → other.0 ≢ gid.0 → IsOf s.groups p other → IsOf (without gid s.groups) p other
  IsOf-without p other ne (inl e) = inl e
  IsOf-without p other ne (inr some) = inr (list_any-kept (monitors p other) keeps s.groups (λ k d within passes.
      let two = cond-and (has_gid other (get_or s.groups k d)) (is_monitor_of p (get_or s.groups k d).kind) passes in
      ap not (ne_eqb gid.0 (get_or s.groups k d).gid.0 (λ e. ne (eqb-true other.0 (get_or s.groups k d).gid.0 two.0 ∙ sym e)))) some)

  -- what holds of the RMID of each group that goes holds of the freed one
  All-rmids_of_gid : (P : ℕ → Type 0) → ((k : ℕ) (d : Group) → k < length s.groups → keeps (get_or s.groups k d) ≡ false → IfSome (get_or s.groups k d).rmid P) → All P (option_map_or rmids_of (find (has_gid gid) s.groups) [])
  All-rmids_of_gid P each = All-rmids_of_found P (has_gid gid) s.groups (λ k d within e. each k d within (ap not e))

  -- a removed monitor group leaves a sound tree
  pub without_monitor-sound : (looks : List ℕ) → IsSound m (without_monitor m s gid (option_map_or rmids_of (find (has_gid gid) s.groups) []) looks)
  without_monitor-sound looks = record {
    named = AreNamed-filter s.groups keeps s.next_gid sound.named (λ x d. first x d);
    numbered = AreNumbered-limbo_after m (without gid s.groups) s.threshold (option_map_or rmids_of (find (has_gid gid) s.groups) []) s.limbo looks
        (AreNumbered-filter s.groups keeps m s.limbo sound.numbered (λ k d parent within stays kind counted. IsCounted-without parent counted))
        (All-rmids_of_gid (λ id. id < m.rmids) (λ k d within e. less (get_or s.groups k d).rmid (sound.numbered.rmids k d within)))
        (HasNone-filter s.groups keeps m s.limbo (option_map_or rmids_of (find (has_gid gid) s.groups) []) sound.numbered All-rmids_of_gid);
    masks = HaveMasks-filter s.groups keeps m sound.masks;
    regions = record {
      each = sound.regions.each;
      lawful = λ domain r there. let old = sound.regions.lawful domain r there in record {
        own = old.own;
        valid = old.valid;
        off_shareable = old.off_shareable;
        off_counted = All-filter keeps (OffCounted domain r.mask) s.groups old.off_counted;
        held = list_any-kept (holds_region domain r) keeps s.groups (λ k d within passes.
            let two = cond-and (has_gid r.gid (get_or s.groups k d)) (cond (has_mode Locked (get_or s.groups k d)) (eqb (mask_in domain (get_or s.groups k d)) r.mask) false) passes in
            let three = cond-and (has_mode Locked (get_or s.groups k d)) (eqb (mask_in domain (get_or s.groups k d)) r.mask) two.1 in
            keeps-control k d within (is_control-locked (get_or s.groups k d) three.0)) old.held;
      };
      once = All-filter keeps (HasOneRegion s.regions) s.groups sound.regions.once;
      no_other = All-filter keeps (HasNoOther s.regions) s.groups sound.regions.no_other;
    };
    lines = sound.lines;
    threshold = sound.threshold;
    tasks = record {
      rising = AreRising-changed (bindings.has_monitor gid) uncounted s.tasks (λ b. refl) sound.tasks.rising;
      each = All-map (IsBound (without gid s.groups)) (λ (b : Binding). cond (bindings.has_monitor gid b) (uncounted b) b) s.tasks
          (λ k d within. let b = sound.tasks.each k d within in cond-case (IsBound (without gid s.groups)) (bindings.has_monitor gid (get_or s.tasks k d)) (uncounted (get_or s.tasks k d)) (get_or s.tasks k d)
          (λ e. (IsCounted-without (get_or s.tasks k d).control b.0, inl refl))
          (λ e. (IsCounted-without (get_or s.tasks k d).control b.0, IsOf-without (get_or s.tasks k d).control (get_or s.tasks k d).monitor (eqb-false (get_or s.tasks k d).monitor.0 gid.0 e) b.1)));
    };
    cpus = record {
      count = length-map s.cpus (cpu_uncounted gid) ∙ sound.cpus.count;
      each = All-map (IsServed (without gid s.groups)) (cpu_uncounted gid) s.cpus
          (λ k d within. let b = sound.cpus.each k d within in cond-case (IsServed (without gid s.groups)) (cpu_groups.has_monitor gid (get_or s.cpus k d)) (cpu_groups.joined (get_or s.cpus k d).control) (get_or s.cpus k d)
          (λ e. (IsCounted-without (get_or s.cpus k d).control b.0, tt))
          (λ e. (IsCounted-without (get_or s.cpus k d).control b.0, served (get_or s.cpus k d).control (get_or s.cpus k d).monitor e b.1)));
    };
  }
    where
      less : (o : Option ℕ) → IfSome o (IsUsed m s.limbo) → IfSome o (λ id. id < m.rmids)
      less None u = tt
      less (Some id) u = u.0

      served : (p : Gid) (o : Option Gid) → cpu_groups.is_group gid o ≡ false → IfSome o (IsOf s.groups p) → IfSome o (IsOf (without gid s.groups) p)
      served p None e i = tt
      served p (Some other) e i = IsOf-without p other (eqb-false other.0 gid.0 e) i

      first : (x : Group) → IsDefault x → keeps x ≡ true
      first x d = ap not (ne_eqb gid.0 x.gid.0 (λ e. other (e ∙ d.gid)))
