-- One group more: what stays sound.
use Rattle.std.proofs.Common.{◌≡◌, ◌≢◌, ℕ, ◌+◌, ◌<◌, Bool, true, false, ◌&&◌, List, [], ◌∷◌, ◌++◌, length, get_or, Option, Some, IsSomeAnd, IfSome, inl, inr, arith}
use Rattle.std.specs.List.{slice_get}
use Rattle.std.proofs.lemmas.List.Elements.{All-push}
use Rattle.std.proofs.lemmas.List.Quantifiers.{all_pairs_push}
use Rattle.std.proofs.lemmas.Option.{IfSome_then}
use Rattle.group_tree.specs.Records.{has_mode, is_control}
use Rattle.group_tree.specs.declared.group.Group.{Group}
use Rattle.group_tree.specs.declared.group_kind.GroupKind.{GroupKind}
use Rattle.group_tree.specs.declared.group_kind.GroupKind.TheVariants.{Control, Monitor}
use Rattle.lists.proofs.Tests.{list_any-push}
use Rattle.machine.specs.declared.parameters.Parameters.{Parameters}
use Rattle.path_names.specs.declared.names.NameId.{NameId}
use Rattle.rc_base.specs.declared.names.Gid.{Gid}
use Rattle.rc_base.specs.declared.names.Mode.TheVariants.{Shareable, Exclusive, Locked}
use Rattle.tree_law.specs.Masks.{HasValid, KeepApart, OffShareable}
use Rattle.tree_law.specs.Regions.{HasNoOther, HasOneRegion, OffCounted, holds_region}
use Rattle.tree_law.specs.Sound.{HasIds, IdsDiffer, IsCounted, IsDefault, IsOf, IsSound, IsUsed, NamesDiffer, counts, monitors}
use Rattle.tree_law.specs.State.{State}
use Rattle.pseudo_lock.specs.declared.region.Region.{Region}
use Rattle.tree_law.specs.commands.Mkdir.{with_group}

module _ (m : Parameters) (s : State) (name : Option NameId) (kind : GroupKind) (class rmid : Option ℕ) (masks : List ℕ) where
  -- the new group: shareable, with the next gid
  abbrev pub added : Group
  added = record { gid = record { 0 = s.next_gid }; name = name; kind = kind; mode = Shareable; class = class; rmid = rmid; masks = masks }

  -- the groups with the new one at the end
  abbrev pub longer : List Group
  longer = s.groups ++ added ∷ []

  -- a counted group stays counted
  pub IsCounted-push : (gid : Gid) → IsCounted s.groups gid → IsCounted longer gid
  IsCounted-push gid counted = list_any-push (counts gid) s.groups added counted

  -- a monitor group stays one of its parent
  IsOf-push : (control gid : Gid) → IsOf s.groups control gid → IsOf longer control gid
  IsOf-push control gid (inl e) = inl e
  IsOf-push control gid (inr some) = inr (list_any-push (monitors control gid) s.groups added some)

  -- a group keeps the ids of its kind
  HasIds-push : (k : GroupKind) (x : Group) → HasIds s.groups k x → HasIds longer k x
  HasIds-push Control x has = has
  HasIds-push (Monitor parent) x has = (has.0, has.1, IsCounted-push parent has.2)

  -- it is not pseudo-locked
  has_mode-added : has_mode Locked added ≡ true → ⊥
  has_mode-added e = at (is_control kind) e
    where
      at : (b : Bool) → (b && false) ≡ true → ⊥
      at true e = let f : false ≡ true = e in cc
      at false e = let f : false ≡ true = e in cc

  -- what a new group has to keep to
  pub record MayAdd : Type 0 where
    pub names : (k : ℕ) (d : Group) → k < length s.groups → NamesDiffer (get_or s.groups k d) added
    pub ids : HasIds longer kind added
    pub class_exists : IfSome class (λ id. id < m.classes)
    pub rmid_used : IfSome rmid (IsUsed m s.limbo)
    pub apart : (k : ℕ) (d : Group) → k < length s.groups → IdsDiffer (get_or s.groups k d) added
    pub places : length masks ≡ 8
    pub valid : (domain : ℕ) → domain < m.domains → HasValid m domain added
    pub masks_apart : (domain : ℕ) → domain < m.domains → (k : ℕ) (d : Group) → k < length s.groups → KeepApart domain (get_or s.groups k d) added
    pub off_regions : (domain : ℕ) (r : Region) → slice_get s.regions domain ≡ Some (Some r) → OffCounted domain r.mask added

  -- a group that may be added keeps a sound tree
  pub with_group-sound : IsSound m s → MayAdd → IsSound m (with_group s added)
  with_group-sound sound may = record {
    named = record {
      first = first s.groups sound.named.first;
      gids = all_pairs_push (λ a b. a.gid.0 ≢ b.gid.0) s.groups added sound.named.gids (λ k d within. below (get_or s.groups k d).gid.0 (sound.named.serial k d within));
      serial = All-push (λ x. x.gid.0 < s.next_gid + 1) s.groups added (λ k d within. (let lt = sound.named.serial k d within in omega arith)) (omega arith);
      names = all_pairs_push NamesDiffer s.groups added sound.named.names may.names;
    };
    numbered = record {
      ids = All-push (λ x. HasIds longer x.kind x) s.groups added (λ k d within. HasIds-push (get_or s.groups k d).kind (get_or s.groups k d) (sound.numbered.ids k d within)) may.ids;
      classes = All-push (λ x. IfSome x.class (λ id. id < m.classes)) s.groups added sound.numbered.classes may.class_exists;
      rmids = All-push (λ x. IfSome x.rmid (IsUsed m s.limbo)) s.groups added sound.numbered.rmids may.rmid_used;
      limbo_exists = sound.numbered.limbo_exists;
      limbo_rising = sound.numbered.limbo_rising;
      apart = all_pairs_push IdsDiffer s.groups added sound.numbered.apart may.apart;
    };
    masks = record {
      places = All-push (λ x. length x.masks ≡ 8) s.groups added sound.masks.places may.places;
      valid = λ domain lt. All-push (HasValid m domain) s.groups added (sound.masks.valid domain lt) (may.valid domain lt);
      apart = λ domain lt. all_pairs_push (KeepApart domain) s.groups added (sound.masks.apart domain lt) (may.masks_apart domain lt);
      off_shareable = λ domain lt. All-push (OffShareable m domain) s.groups added (sound.masks.off_shareable domain lt) (λ counted e. absurd (let f : Shareable ≡ Exclusive = e in cc));
    };
    regions = record {
      each = sound.regions.each;
      lawful = λ domain r there. let old = sound.regions.lawful domain r there in record {
        own = old.own;
        valid = old.valid;
        off_shareable = old.off_shareable;
        off_counted = All-push (OffCounted domain r.mask) s.groups added old.off_counted (may.off_regions domain r there);
        held = list_any-push (holds_region domain r) s.groups added old.held;
      };
      once = All-push (HasOneRegion s.regions) s.groups added sound.regions.once (λ e. absurd (has_mode-added e));
      no_other = All-push (HasNoOther s.regions) s.groups added sound.regions.no_other (λ e. absurd (has_mode-added e));
    };
    lines = sound.lines;
    threshold = sound.threshold;
    tasks = record {
      rising = sound.tasks.rising;
      each = λ k d within. let b = sound.tasks.each k d within in (IsCounted-push (get_or s.tasks k d).control b.0, IsOf-push (get_or s.tasks k d).control (get_or s.tasks k d).monitor b.1);
    };
    cpus = record {
      count = sound.cpus.count;
      each = λ k d within. let c = sound.cpus.each k d within in (
        IsCounted-push (get_or s.cpus k d).control c.0,
        IfSome_then (get_or s.cpus k d).monitor {P = IsOf s.groups (get_or s.cpus k d).control} {Q = IsOf longer (get_or s.cpus k d).control} c.1 (λ monitor is. IsOf-push (get_or s.cpus k d).control monitor is),
      );
    };
  }
    where
      first : (gs : List Group) → IsSomeAnd (slice_get gs 0) IsDefault → IsSomeAnd (slice_get (gs ++ added ∷ []) 0) IsDefault
      first [] f = absurd f
      first (x ∷ xs) f = f

      below : (a : ℕ) → a < s.next_gid → a ≢ s.next_gid
      below a lt = λ e. omega arith
