-- One record with another mode, other ids or other masks: what stays sound.
use Rattle.std.proofs.Common.{◌≡◌, ◌≢◌, ℕ, ◌<◌, Bool, true, false, cond, eqb, List, [], ◌∷◌, length, find, get_or, Option, Some, IsSomeAnd, IfSome, IsSome, IsNone, ◌⊎◌, inl, inr, refl, sym, subst, ◌∙◌}
use Rattle.std.specs.List.{All, slice_get}
use Rattle.std.proofs.lemmas.Bool.{eqb-true}
use Rattle.std.proofs.lemmas.Option.{IfSome_then}
use Rattle.cpu_binding.specs.declared.groups.CpuGroups.{CpuGroups}
use Rattle.group_tree.specs.Lists.{GidsDiffer, replaced}
use Rattle.group_tree.specs.Records.{has_gid, has_mode, mask_in}
use Rattle.group_tree.specs.declared.group.Group.{Group}
use Rattle.group_tree.specs.declared.group_kind.GroupKind.{GroupKind}
use Rattle.group_tree.specs.declared.group_kind.GroupKind.TheVariants.{Control, Monitor}
use Rattle.lists.proofs.Keyed.{All-replaced_kept, All-replaced, list_any-replaced, AllPairs-replaced}
use Rattle.lists.proofs.Tests.{IsFound, find-found, IsFound-all}
use Rattle.machine.specs.declared.parameters.Parameters.{Parameters}
use Rattle.rc_base.specs.declared.names.Gid.{Gid}
use Rattle.rc_base.specs.declared.names.Mode.{Mode}
use Rattle.rc_base.specs.declared.names.Mode.TheVariants.{Shareable, Exclusive, LockSetup, Locked}
use Rattle.task_binding.specs.declared.binding.Binding.{Binding}
use Rattle.tree_law.proofs.Groups.{gid_number}
use Rattle.tree_law.specs.Counted.{is_counted}
use Rattle.tree_law.specs.Masks.{HasValid, HaveMasks, KeepApart, OffShareable}
use Rattle.tree_law.specs.Regions.{HasNoOther, HasOneRegion, HaveRegions, OffCounted, holds_region}
use Rattle.tree_law.specs.Sound.{AreBound, AreNamed, AreNumbered, AreServed, HasIds, HasIdsOf, IdsDiffer, IsCounted, IsDefault, IsOf, IsUsed, NamesDiffer, counts, monitors}
use Rattle.tree_law.proofs.BothSides.{NamesDiffer-turned, IdsDiffer-turned, KeepApart-turned}
use Rattle.pseudo_lock.specs.declared.region.Region.{Region}

-- ids of a mode depend on the ids alone
pub HasIdsOf-same : (mode : Mode) (g new : Group) → new.class ≡ g.class → new.rmid ≡ g.rmid → HasIdsOf mode g → HasIdsOf mode new
HasIdsOf-same Shareable g new c r ids = (subst (λ (o : Option ℕ). IsSome o) (sym c) ids.0, subst (λ (o : Option ℕ). IsSome o) (sym r) ids.1)
HasIdsOf-same Exclusive g new c r ids = (subst (λ (o : Option ℕ). IsSome o) (sym c) ids.0, subst (λ (o : Option ℕ). IsSome o) (sym r) ids.1)
HasIdsOf-same LockSetup g new c r ids = (subst (λ (o : Option ℕ). IsSome o) (sym c) ids.0, subst (λ (o : Option ℕ). IsNone o) (sym r) ids.1)
HasIdsOf-same Locked g new c r ids = (subst (λ (o : Option ℕ). IsNone o) (sym c) ids.0, subst (λ (o : Option ℕ). IsNone o) (sym r) ids.1)

module _ (groups : List Group) (g : Group) (mode : Mode) (class rmid : Option ℕ) (masks : List ℕ) (gids : GidsDiffer groups) (found : find (has_gid g.gid) groups ≡ Some g) where
  -- the record in its place
  abbrev pub new_record : Group
  new_record = record g { mode = mode; class = class; rmid = rmid; masks = masks }

  -- the groups with the new record in place of the old one
  abbrev pub after : List Group
  after = replaced new_record groups

  -- the group is found by its gid
  IsFound-gid : IsFound (has_gid g.gid) groups g
  IsFound-gid = find-found (has_gid g.gid) groups g found

  -- ---- names

  -- the first record is still the default group's
  IsDefault-replaced : (gs : List Group) → IsSomeAnd (slice_get gs 0) IsDefault → find (has_gid g.gid) gs ≡ Some g → (IsDefault g → IsDefault new_record) → IsSomeAnd (slice_get (replaced new_record gs) 0) IsDefault
  IsDefault-replaced [] first f kept = first
  IsDefault-replaced (x ∷ xs) first f kept = at (has_gid g.gid x) f
    where
      at : (b : Bool) → cond b (Some x) (find (has_gid g.gid) xs) ≡ Some g → IsDefault (cond b new_record x)
      at true e = let same : x ≡ g = (let s : Some x ≡ Some g = e in cc) in kept (subst IsDefault same first)
      at false e = first

  -- the groups are still named
  pub AreNamed-replaced : (next_gid : ℕ) → AreNamed groups next_gid → (IsDefault g → IsDefault new_record) → AreNamed after next_gid
  AreNamed-replaced next_gid named kept = record {
    first = IsDefault-replaced groups named.first found kept;
    gids = AllPairs-replaced gid_number groups new_record g gids found (λ a b. a.gid.0 ≢ b.gid.0) (λ a b differ e. differ (sym e)) gids (λ k d within other differ. differ);
    serial = All-replaced_kept gid_number groups new_record g gids found (λ x. x.gid.0 < next_gid) (IsFound-all (λ (x : Group). x.gid.0 < next_gid) (has_gid g.gid) groups g IsFound-gid named.serial) named.serial;
    names = AllPairs-replaced gid_number groups new_record g gids found NamesDiffer NamesDiffer-turned named.names (λ k d within other differ. differ);
  }

  -- ---- counted groups

  -- a group stays counted where this one stays counted, or is another
  abbrev pub Stays : Gid → Type 0
  Stays gid = (is_counted g ≡ true → is_counted new_record ≡ true) ⊎ (gid.0 ≢ g.gid.0)

  -- the new record is counted where the old one was and stays so
  counts-replaced : (gid : Gid) → Stays gid → counts gid g ≡ true → counts gid new_record ≡ true
  counts-replaced gid stays passes = at (eqb gid.0 g.gid.0) refl stays passes
    where
      at : (b : Bool) → eqb gid.0 g.gid.0 ≡ b → Stays gid → cond b (is_counted g) false ≡ true → cond b (is_counted new_record) false ≡ true
      at true is (inl kept) e = kept e
      at true is (inr other) e = absurd (other (eqb-true gid.0 g.gid.0 is))
      at false is stays e = e

  -- a group that stays counted is counted
  pub IsCounted-replaced : (gid : Gid) → Stays gid → IsCounted groups gid → IsCounted after gid
  IsCounted-replaced gid stays counted = list_any-replaced gid_number groups new_record g gids found (counts gid) (counts-replaced gid stays) counted

  -- a monitor group is still one of its parent
  pub IsOf-replaced : (control gid : Gid) → IsOf groups control gid → IsOf after control gid
  IsOf-replaced control gid (inl same) = inl same
  IsOf-replaced control gid (inr some) = inr (list_any-replaced gid_number groups new_record g gids found (monitors control gid) (λ passes. passes) some)

  -- ---- tasks and CPUs

  -- tasks are still bound where their groups stay counted
  pub AreBound-replaced : (tasks : List Binding) → All (λ (b : Binding). Stays b.control) tasks → AreBound groups tasks → AreBound after tasks
  AreBound-replaced tasks stay bound = record {
    rising = bound.rising;
    each = λ k d within. let b = bound.each k d within in (IsCounted-replaced (get_or tasks k d).control (stay k d within) b.0, IsOf-replaced (get_or tasks k d).control (get_or tasks k d).monitor b.1);
  }

  -- CPUs are still served where their groups stay counted
  pub AreServed-replaced : (m : Parameters) (cpus : List CpuGroups) → All (λ (c : CpuGroups). Stays c.control) cpus → AreServed m groups cpus → AreServed m after cpus
  AreServed-replaced m cpus stay served = record {
    count = served.count;
    each = λ k d within. let c = served.each k d within in (
      IsCounted-replaced (get_or cpus k d).control (stay k d within) c.0,
      IfSome_then (get_or cpus k d).monitor {P = IsOf groups (get_or cpus k d).control} {Q = IsOf after (get_or cpus k d).control} c.1 (λ monitor is. IsOf-replaced (get_or cpus k d).control monitor is),
    );
  }

  -- ---- ids

  -- a group has the ids of its kind where its parent stays counted
  HasIds-replaced : (kind : GroupKind) (x : Group) → ((parent : Gid) → kind ≡ Monitor parent → Stays parent) → HasIds groups kind x → HasIds after kind x
  HasIds-replaced Control x stays has = has
  HasIds-replaced (Monitor parent) x stays has = (has.0, has.1, IsCounted-replaced parent (stays parent refl) has.2)

  -- the groups are still numbered where the new record's ids are its own
  pub AreNumbered-replaced : (m : Parameters) (limbo : List ℕ) → AreNumbered m groups limbo
      → ((k : ℕ) (d : Group) (parent : Gid) → k < length groups → (get_or groups k d).kind ≡ Monitor parent → Stays parent)
      → HasIds after g.kind new_record → IfSome class (λ id. id < m.classes) → IfSome rmid (IsUsed m limbo)
      → ((k : ℕ) (d : Group) → k < length groups → has_gid g.gid (get_or groups k d) ≡ false → IdsDiffer g (get_or groups k d) → IdsDiffer new_record (get_or groups k d))
      → AreNumbered m after limbo
  AreNumbered-replaced m limbo numbered stays ids has_class has_rmid differ = record {
    ids = All-replaced gid_number groups new_record g gids found (λ x. HasIds after x.kind x) ids (λ k d within other. HasIds-replaced (get_or groups k d).kind (get_or groups k d) (λ parent is. stays k d parent within is) (numbered.ids k d within));
    classes = All-replaced_kept gid_number groups new_record g gids found (λ x. IfSome x.class (λ id. id < m.classes)) has_class numbered.classes;
    rmids = All-replaced_kept gid_number groups new_record g gids found (λ x. IfSome x.rmid (IsUsed m limbo)) has_rmid numbered.rmids;
    limbo_exists = numbered.limbo_exists;
    limbo_rising = numbered.limbo_rising;
    apart = AllPairs-replaced gid_number groups new_record g gids found IdsDiffer IdsDiffer-turned numbered.apart differ;
  }

  -- ---- masks

  -- the masks are still lawful where the new record's are
  pub HaveMasks-replaced : (m : Parameters) → HaveMasks m groups → length masks ≡ 8
      → ((domain : ℕ) → domain < m.domains → HasValid m domain new_record)
      → ((domain : ℕ) → domain < m.domains → (k : ℕ) (d : Group) → k < length groups → has_gid g.gid (get_or groups k d) ≡ false → KeepApart domain g (get_or groups k d) → KeepApart domain new_record (get_or groups k d))
      → ((domain : ℕ) → domain < m.domains → OffShareable m domain new_record)
      → HaveMasks m after
  HaveMasks-replaced m have places valid apart off = record {
    places = All-replaced_kept gid_number groups new_record g gids found (λ x. length x.masks ≡ 8) places have.places;
    valid = λ domain lt. All-replaced_kept gid_number groups new_record g gids found (HasValid m domain) (valid domain lt) (have.valid domain lt);
    apart = λ domain lt. AllPairs-replaced gid_number groups new_record g gids found (KeepApart domain) (KeepApart-turned domain) (have.apart domain lt) (apart domain lt);
    off_shareable = λ domain lt. All-replaced_kept gid_number groups new_record g gids found (OffShareable m domain) (off domain lt) (have.off_shareable domain lt);
  }

  -- ---- regions, where neither record is pseudo-locked

  -- no test both fails and passes
  false-absurd : (x : Bool) → x ≡ false → x ≡ true → ⊥
  false-absurd x is e = let f : false ≡ true = sym is ∙ e in cc

  -- the regions are as they were where neither record is pseudo-locked
  pub HaveRegions-replaced : (m : Parameters) (regions : List (Option Region)) → HaveRegions m groups regions → has_mode Locked g ≡ false → has_mode Locked new_record ≡ false
      → ((domain : ℕ) (r : Region) → slice_get regions domain ≡ Some (Some r) → OffCounted domain r.mask new_record) → HaveRegions m after regions
  HaveRegions-replaced m regions have was is off = record {
    each = have.each;
    lawful = λ domain r there. let old = have.lawful domain r there in record {
      own = old.own;
      valid = old.valid;
      off_shareable = old.off_shareable;
      off_counted = All-replaced_kept gid_number groups new_record g gids found (OffCounted domain r.mask) (off domain r there) old.off_counted;
      held = list_any-replaced gid_number groups new_record g gids found (holds_region domain r) (λ passes. absurd (held domain r (has_gid r.gid g) (has_mode Locked g) was passes)) old.held;
    };
    once = All-replaced_kept gid_number groups new_record g gids found (HasOneRegion regions) (λ locked. absurd (false-absurd (has_mode Locked new_record) is locked)) have.once;
    no_other = All-replaced_kept gid_number groups new_record g gids found (HasNoOther regions) (λ locked. absurd (false-absurd (has_mode Locked new_record) is locked)) have.no_other;
  }
    where
      held : (domain : ℕ) (r : Region) (a b : Bool) → b ≡ false → cond a (cond b (eqb (mask_in domain g) r.mask) false) false ≡ true → ⊥
      held domain r true true was e = let f : true ≡ false = was in cc
      held domain r true false was e = let f : false ≡ true = e in cc
      held domain r false b was e = let f : false ≡ true = e in cc
