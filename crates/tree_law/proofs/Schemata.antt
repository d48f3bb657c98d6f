-- A write of `schemata` to a counted group keeps a sound tree.
use Rattle.std.proofs.Common.{◌≡◌, ◌≢◌, ℕ, zero, suc, ◌<◌, true, false, ◌&&◌, cond, List, [], ◌∷◌, length, find, get_or, None, Some, IfSome, Ok, inl, refl, sym, subst, ◌∙◌, arith}
use Rattle.group_tree.specs.Records.{has_gid, has_mode, is_control, is_mode}
use Rattle.group_tree.specs.declared.group.Group.{Group}
use Rattle.group_tree.specs.declared.group_kind.GroupKind.{GroupKind}
use Rattle.group_tree.specs.declared.group_kind.GroupKind.TheVariants.{Control, Monitor}
use Rattle.lists.proofs.Tests.{find-found, IsFound-all}
use Rattle.lists.proofs.Options.{option_or-none}
use Rattle.machine.specs.Ranges.{InRange}
use Rattle.machine.specs.declared.parameters.Parameters.{Parameters}
use Rattle.mode_rules.specs.Overlaps.{write_overlap}
use Rattle.rc_base.specs.declared.names.Mode.{Mode}
use Rattle.rc_base.specs.declared.names.Mode.TheVariants.{Shareable, Exclusive, LockSetup, Locked}
use Rattle.schemata_text.specs.declared.assignment.Assignment.{Assignment}
use Rattle.tree_law.proofs.Masks.{FitsBeside, get_or-assigned, length-assigned, FitsBeside-old, FitsBeside-written, HaveMasks-fitting, HaveRegions-fitting}
use Rattle.tree_law.proofs.NewRecords.{after, AreBound-replaced, AreNamed-replaced, new_record, AreNumbered-replaced, HasIdsOf-same, AreServed-replaced}
use Rattle.tree_law.proofs.laws.Refusals.{against_overlap-none}
use Rattle.tree_law.specs.Counted.{is_counted, is_counted_mode}
use Rattle.tree_law.specs.Masks.{IsValid}
use Rattle.tree_law.specs.Places.{with_record}
use Rattle.tree_law.specs.Sound.{HasIds, HasIdsOf, IsSound, IsUsed}
use Rattle.tree_law.specs.Space.{used_in}
use Rattle.tree_law.specs.State.{State}
use Rattle.tree_law.specs.commands.Schemata.{against_entries, against_entry, assigned}

-- where no assignment is refused, nothing stands against the mask of any
pub against_entries-none : (m : Parameters) (s : State) (g : Group) (all : List Assignment) → against_entries m s g all ≡ None → (k : ℕ) (d : Assignment) → k < length all
    → write_overlap g.mode (get_or all k d).mask (used_in m s (Some g.gid) (get_or all k d).domain) ≡ Ok tt
against_entries-none m s g [] none k d within = absurd (omega arith)
against_entries-none m s g (a ∷ all) none zero d within = against_overlap-none a.domain (write_overlap g.mode a.mask (used_in m s (Some g.gid) a.domain)) (option_or-none (against_entry m s g a) (against_entries m s g all) none).0
against_entries-none m s g (a ∷ all) none (suc k) d within = against_entries-none m s g all (option_or-none (against_entry m s g a) (against_entries m s g all) none).1 k d (omega arith)

-- a counted group is not pseudo-locked
pub mode-counted : (g : Group) → is_counted g ≡ true → (g.mode ≢ Locked) × (has_mode Locked g ≡ false)
mode-counted g counted = at g.kind g.mode counted
  where
    at : (kind : GroupKind) (mode : Mode) → cond (is_control kind) (is_counted_mode mode) false ≡ true → (mode ≢ Locked) × ((is_control kind && is_mode Locked mode) ≡ false)
    at (Monitor p) mode c = absurd (let f : false ≡ true = c in cc)
    at Control Shareable c = (λ e. let f : Shareable ≡ Locked = e in cc, refl)
    at Control Exclusive c = (λ e. let f : Exclusive ≡ Locked = e in cc, refl)
    at Control LockSetup c = absurd (let f : false ≡ true = c in cc)
    at Control Locked c = absurd (let f : false ≡ true = c in cc)

-- the ids of a record with the same ids
pub HasIds-same : (groups after : List Group) (kind : GroupKind) (g new : Group) → new.mode ≡ g.mode → new.class ≡ g.class → new.rmid ≡ g.rmid → is_control kind ≡ true → HasIds groups kind g → HasIds after kind new
HasIds-same groups after Control g new mode c r control has = subst (λ (x : Mode). HasIdsOf x new) (sym mode) (HasIdsOf-same g.mode g new c r has)
HasIds-same groups after (Monitor p) g new mode c r control has = absurd (let f : false ≡ true = control in cc)

module _ (m : Parameters) (s : State) (g : Group) (sound : IsSound m s) (found : find (has_gid g.gid) s.groups ≡ Some g) (control : is_control g.kind ≡ true) (counted : is_counted g ≡ true) where
  -- masks that fit keep a sound tree
  pub with_record-sound : (masks : List ℕ) → length masks ≡ 8 → ((domain : ℕ) → domain < m.domains → FitsBeside m s g sound found g.mode domain (get_or masks domain 0)) → IsSound m (with_record s (record g { masks = masks }))
  with_record-sound masks places fits = let p = find-found (has_gid g.gid) s.groups g found in let gids = sound.named.gids in let unlocked = (mode-counted g counted).1 in record {
    named = AreNamed-replaced s.groups g g.mode g.class g.rmid masks gids found s.next_gid sound.named (λ d. record { gid = d.gid; name = d.name; counted = d.counted; class = d.class; rmid = d.rmid });
    numbered = AreNumbered-replaced s.groups g g.mode g.class g.rmid masks gids found m s.limbo sound.numbered
        (λ k d parent within is. inl (λ c. c))
        (HasIds-same s.groups (after s.groups g g.mode g.class g.rmid masks gids found) g.kind g (new_record s.groups g g.mode g.class g.rmid masks gids found) refl refl refl control (IsFound-all (λ (x : Group). HasIds s.groups x.kind x) (has_gid g.gid) s.groups g p sound.numbered.ids))
        (IsFound-all (λ (x : Group). IfSome x.class (λ id. id < m.classes)) (has_gid g.gid) s.groups g p sound.numbered.classes)
        (IsFound-all (λ (x : Group). IfSome x.rmid (IsUsed m s.limbo)) (has_gid g.gid) s.groups g p sound.numbered.rmids)
        (λ k d within other differ. differ);
    masks = HaveMasks-fitting m s g sound found g.mode g.class g.rmid masks places fits;
    regions = HaveRegions-fitting m s g sound found g.mode g.class g.rmid masks places fits unlocked unlocked;
    lines = sound.lines;
    threshold = sound.threshold;
    tasks = AreBound-replaced s.groups g g.mode g.class g.rmid masks gids found s.tasks (λ k d within. inl (λ c. c)) sound.tasks;
    cpus = AreServed-replaced s.groups g g.mode g.class g.rmid masks gids found m s.cpus (λ k d within. inl (λ c. c)) sound.cpus;
  }

  -- assignments that nothing is against keep a sound tree
  pub assigned-sound : (all : List Assignment) → InRange m → ((k : ℕ) (d : Assignment) → k < length all → ((get_or all k d).domain < m.domains) × IsValid m (get_or all k d).mask) → against_entries m s g all ≡ None
      → IsSound m (with_record s (record g { masks = assigned g.masks all }))
  assigned-sound all range lawful none = with_record-sound (assigned g.masks all) (length-assigned all g.masks ∙ places)
      (get_or-assigned (FitsBeside m s g sound found g.mode) m.domains all g.masks places
      (λ k d within. let one = lawful k d within in (let lt = one.0 in let most = range.domain_limit in omega arith, FitsBeside-written m s g sound found g.mode (get_or all k d).domain (get_or all k d).mask tt one.1 (against_entries-none m s g all none k d within)))
      (FitsBeside-old m s g sound found control (mode-counted g counted).0 counted))
    where
      places : length g.masks ≡ 8
      places = IsFound-all (λ (x : Group). length x.masks ≡ 8) (has_gid g.gid) s.groups g (find-found (has_gid g.gid) s.groups g found) sound.masks.places
