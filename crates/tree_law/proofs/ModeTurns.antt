-- A tree stays sound where a group turns to another counted mode, or to pseudo-locksetup.
use Rattle.std.proofs.Common.{◌≡◌, ℕ, ◌<◌, Bool, true, false, ◌||◌, cond, List, [], length, find, get_or, Option, None, Some, IfSome, IsSome, inl, inr, refl, sym, ap, ◌∙◌, arith}
use Rattle.std.specs.List.{All}
use Rattle.std.specs.Option.{option_to_list}
use Rattle.std.proofs.lemmas.Bool.{eqb-false, eq-eqb, ne_eqb}
use Rattle.std.proofs.lemmas.List.Elements.{All-cons}
use Rattle.group_tree.specs.Records.{has_gid, is_control, is_monitor_of, mask_in}
use Rattle.group_tree.specs.declared.group.Group.{Group}
use Rattle.group_tree.specs.declared.group_kind.GroupKind.{GroupKind}
use Rattle.group_tree.specs.declared.group_kind.GroupKind.TheVariants.{Control, Monitor}
use Rattle.hw_ids.specs.Ids.{contains}
use Rattle.lists.proofs.Keyed.{All-replaced, AllPairs-beside}
use Rattle.lists.proofs.Tests.{IsFound, find-found, IsFound-all, All-from_empty}
use Rattle.machine.specs.declared.parameters.Parameters.{Parameters}
use Rattle.rc_base.specs.declared.names.Gid.{Gid}
use Rattle.rc_base.specs.declared.names.Mode.{Mode}
use Rattle.rc_base.specs.declared.names.Mode.TheVariants.{LockSetup}
use Rattle.tree_law.proofs.Groups.{gid_number}
use Rattle.tree_law.proofs.Limbo.{HasNone, AreNumbered-limbo_after}
use Rattle.tree_law.proofs.Masks.{FitsBeside, HaveMasks-fitting, HaveRegions-fitting}
use Rattle.tree_law.proofs.NewRecords.{after, AreBound-replaced, HaveMasks-replaced, AreNamed-replaced, new_record, AreNumbered-replaced, HaveRegions-replaced, AreServed-replaced}
use Rattle.tree_law.proofs.BothSides.{IdsDiffer-turned}
use Rattle.tree_law.specs.Counted.{is_counted, is_counted_mode}
use Rattle.tree_law.specs.Freeing.{limbo_after}
use Rattle.tree_law.specs.Masks.{HasValid}
use Rattle.tree_law.specs.Places.{with_record}
use Rattle.tree_law.specs.Sound.{Differ, HasIds, IdsDiffer, IsDefault, IsSound, IsUsed}
use Rattle.tree_law.specs.State.{State}
use Rattle.tree_law.specs.commands.Mode.{holdings}
use Rattle.tree_law.specs.commands.Schemata.{is_locked}
use Rattle.cpu_binding.specs.Groups as cpu_groups
use Rattle.task_binding.specs.Bindings as bindings
use Rattle.tree_law.proofs.ModeTests.{MayEnter, IsSome-class, is_locked-false, has_mode-unlocked, HasIds-control, HasIdsOf-counted, cond-counted, is_locked-counted}

module _ (m : Parameters) (s : State) (g : Group) (sound : IsSound m s) (found : find (has_gid g.gid) s.groups ≡ Some g) (control : is_control g.kind ≡ true) (unlocked : is_locked g.mode ≡ false) where
  -- the group is found by its gid
  pub IsFound-gid : IsFound (has_gid g.gid) s.groups g
  IsFound-gid = find-found (has_gid g.gid) s.groups g found

  -- the group has a class
  IsSome-class_here : IsSome g.class
  IsSome-class_here = IsSome-class s.groups g.kind g control unlocked (IsFound-all (λ (x : Group). HasIds s.groups x.kind x) (has_gid g.gid) s.groups g IsFound-gid sound.numbered.ids)

  -- to a counted mode
  pub IsSound-counted : (mode : Mode) (rmid : Option ℕ) → is_counted_mode mode ≡ true → (IsDefault g → rmid ≡ Some 0) → IsSome rmid → IfSome rmid (IsUsed m s.limbo)
      → ((k : ℕ) (d : Group) → k < length s.groups → has_gid g.gid (get_or s.groups k d) ≡ false → Differ rmid (get_or s.groups k d).rmid)
      → ((domain : ℕ) → domain < m.domains → FitsBeside m s g sound found mode domain (mask_in domain g)) → IsSound m (with_record s (record g { mode = mode; rmid = rmid }))
  IsSound-counted mode rmid counted default some used differ fits =
      let gids = sound.named.gids in
      let stays : is_counted g ≡ true → cond (is_control g.kind) (is_counted_mode mode) false ≡ true = λ _. cond-counted g.kind mode control counted in
      let p = IsFound-gid in record {
        named = AreNamed-replaced s.groups g mode g.class rmid g.masks gids found s.next_gid sound.named (λ d. record { gid = d.gid; name = d.name; counted = cond-counted g.kind mode control counted; class = d.class; rmid = default d });
        numbered = AreNumbered-replaced s.groups g mode g.class rmid g.masks gids found m s.limbo sound.numbered
            (λ k d parent within is. inl stays)
            (HasIds-control (after s.groups g mode g.class rmid g.masks gids found) g.kind (new_record s.groups g mode g.class rmid g.masks gids found) mode refl control (HasIdsOf-counted mode (new_record s.groups g mode g.class rmid g.masks gids found) counted IsSome-class_here some))
            (IsFound-all (λ (x : Group). IfSome x.class (λ id. id < m.classes)) (has_gid g.gid) s.groups g p sound.numbered.classes)
            used
            (λ k d within other old. (old.0, differ k d within other));
        masks = HaveMasks-fitting m s g sound found mode g.class rmid g.masks (IsFound-all (λ (x : Group). length x.masks ≡ 8) (has_gid g.gid) s.groups g p sound.masks.places) fits;
        regions = HaveRegions-fitting m s g sound found mode g.class rmid g.masks (IsFound-all (λ (x : Group). length x.masks ≡ 8) (has_gid g.gid) s.groups g p sound.masks.places) fits
            (has_mode-unlocked g.kind g.mode unlocked) (has_mode-unlocked g.kind mode (is_locked-counted mode counted));
        lines = sound.lines;
        threshold = sound.threshold;
        tasks = AreBound-replaced s.groups g mode g.class rmid g.masks gids found s.tasks (λ k d within. inl stays) sound.tasks;
        cpus = AreServed-replaced s.groups g mode g.class rmid g.masks gids found m s.cpus (λ k d within. inl stays) sound.cpus;
      }

  -- to pseudo-locksetup
  pub IsSound-setup : (looks : List ℕ) → MayEnter (holdings s g) → IsSound m (record (with_record s (record g { mode = LockSetup; rmid = None })) { limbo = limbo_after m s.threshold s.limbo (option_to_list g.rmid) looks })
  IsSound-setup looks enter =
      let gids = sound.named.gids in
      let uncounted = off g.kind in
      let p = IsFound-gid in record {
        named = AreNamed-replaced s.groups g LockSetup g.class None g.masks gids found s.next_gid sound.named (λ d. absurd (let f : true ≡ false = sym (eq-eqb g.gid.0 0 d.gid) ∙ enter.other in cc));
        numbered = AreNumbered-limbo_after m (after s.groups g LockSetup g.class None g.masks gids found) s.threshold (option_to_list g.rmid) s.limbo looks
            (AreNumbered-replaced s.groups g LockSetup g.class None g.masks gids found m s.limbo sound.numbered
            (λ k d parent within is. inr (λ e. no_child k d parent within is e))
            (HasIds-control (after s.groups g LockSetup g.class None g.masks gids found) g.kind (new_record s.groups g LockSetup g.class None g.masks gids found) LockSetup refl control (IsSome-class_here, refl))
            (IsFound-all (λ (x : Group). IfSome x.class (λ id. id < m.classes)) (has_gid g.gid) s.groups g p sound.numbered.classes)
            tt
            (λ k d within other old. (old.0, tt)))
            (listed g.rmid (IsFound-all (λ (x : Group). IfSome x.rmid (IsUsed m s.limbo)) (has_gid g.gid) s.groups g p sound.numbered.rmids))
            (All-replaced gid_number s.groups (new_record s.groups g LockSetup g.class None g.masks gids found) g gids found (HasNone (option_to_list g.rmid)) tt
            (λ k d within other. apart g.rmid (get_or s.groups k d).rmid (AllPairs-beside gid_number s.groups g g gids found IdsDiffer IdsDiffer-turned sound.numbered.apart k d within other).1));
        masks = HaveMasks-replaced s.groups g LockSetup g.class None g.masks gids found m sound.masks
            (IsFound-all (λ (x : Group). length x.masks ≡ 8) (has_gid g.gid) s.groups g p sound.masks.places)
            (λ domain lt c u. IsFound-all (HasValid m domain) (has_gid g.gid) s.groups g p (sound.masks.valid domain lt) control (is_locked-false g.mode unlocked))
            (λ domain lt k d within other keep cn cx either. absurd (uncounted cn))
            (λ domain lt cn e. absurd (uncounted cn));
        regions = HaveRegions-replaced s.groups g LockSetup g.class None g.masks gids found m s.regions sound.regions (has_mode-unlocked g.kind g.mode unlocked) (has_mode-unlocked g.kind LockSetup refl)
            (λ domain r there cn. absurd (uncounted cn));
        lines = sound.lines;
        threshold = sound.threshold;
        tasks = AreBound-replaced s.groups g LockSetup g.class None g.masks gids found s.tasks (λ k d within. inr (eqb-false (get_or s.tasks k d).control.0 g.gid.0 (All-from_empty (bindings.has_control g.gid) s.tasks enter.tasks k d within))) sound.tasks;
        cpus = AreServed-replaced s.groups g LockSetup g.class None g.masks gids found m s.cpus (λ k d within. inr (eqb-false (get_or s.cpus k d).control.0 g.gid.0 (All-from_empty (cpu_groups.has_control g.gid) s.cpus enter.cpus k d within))) sound.cpus;
      }
    where
      off : (kind : GroupKind) → cond (is_control kind) false false ≡ true → ⊥
      off Control e = let f : false ≡ true = e in cc
      off (Monitor q) e = let f : false ≡ true = e in cc

      no_child : (k : ℕ) (d : Group) (parent : Gid) → k < length s.groups → (get_or s.groups k d).kind ≡ Monitor parent → parent.0 ≡ g.gid.0 → ⊥
      no_child k d parent within is same = (let none = All-from_empty (λ (x : Group). is_monitor_of g.gid x.kind) s.groups enter.monitors k d within in
          let one : is_monitor_of g.gid (get_or s.groups k d).kind ≡ true = ap (is_monitor_of g.gid) is ∙ eq-eqb g.gid.0 parent.0 (sym same) in
          let f : true ≡ false = sym one ∙ none in cc)

      listed : (o : Option ℕ) → IfSome o (IsUsed m s.limbo) → All (λ id. id < m.rmids) (option_to_list o)
      listed None used = λ k d within. absurd (omega arith)
      listed (Some id) used = All-cons (λ id. id < m.rmids) id [] used.0 (λ k d within. absurd (omega arith))

      apart : (a b : Option ℕ) → Differ a b → IfSome b (λ id. contains id (option_to_list a) ≡ false)
      apart a None differ = tt
      apart None (Some b) differ = refl
      apart (Some a) (Some b) differ = ap (λ (x : Bool). x || false) (ne_eqb a b differ)
