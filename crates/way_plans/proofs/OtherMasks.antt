-- Masks that keep apart from all that others use.
use Rattle.std.proofs.Common.{◌≡◌, ℕ, ◌<◌, Bool, true, false, not, ◌&&◌, ◌||◌, cond, List, [], ◌∷◌, length, filter, get_or, map, Option, Some, Result, Ok, Err, refl, sym, subst, ap, ◌∙◌, zero-add}
use Rattle.std.specs.Prelude.{All}
use Rattle.std.specs.List.{list_any, range_with_len}
use Rattle.std.proofs.lemmas.List.FromFn.{get_or-range_with_len, length-range_with_len}
use Rattle.std.proofs.lemmas.List.Elements.{All-head, All-tail}
use Rattle.std.proofs.lemmas.List.Folds.{list_any_none}
use Rattle.cbm.proofs.laws.Overlaps.{overlaps-union}
use Rattle.cbm.specs.Masks.{overlaps}
use Rattle.group_tree.specs.Others.{masks_of_others}
use Rattle.group_tree.specs.Records.{has_gid, has_mode, is_control, is_mode, is_other_in, mask_in}
use Rattle.group_tree.specs.declared.group.Group.{Group}
use Rattle.group_tree.specs.declared.group_kind.GroupKind.{GroupKind}
use Rattle.group_tree.specs.declared.group_kind.GroupKind.TheVariants.{Control, Monitor}
use Rattle.machine.specs.declared.parameters.Parameters.{Parameters}
use Rattle.mode_rules.specs.Overlaps.{is_apart, write_overlap}
use Rattle.mode_rules.specs.declared.domain_use.DomainUse.{DomainUse}
use Rattle.mode_rules.specs.declared.overlap.Overlap.{Overlap}
use Rattle.mode_rules.specs.declared.overlap.Overlap.TheVariants as overlap
use Rattle.rc_base.specs.declared.names.Gid.{Gid}
use Rattle.rc_base.specs.declared.names.Mode.{Mode}
use Rattle.rc_base.specs.declared.names.Mode.TheVariants.{Exclusive, LockSetup, Locked, Shareable}
use Rattle.tree_law.proofs.laws.Unions.{IsUnion-union_of}
use Rattle.tree_law.specs.Counted.{is_counted, is_counted_mode}
use Rattle.tree_law.specs.Space.{union_of, used_in}
use Rattle.tree_law.specs.State.{State}
use Rattle.tree_law.specs.commands.Mode.{overlaps_some}

-- where none of the elements that a filter keeps passes
list_any-kept_mapped : {X Y : Type 0} (q : Y → Bool) (f : X → Y) (p : X → Bool) (xs : List X) → All (λ x. p x ≡ true → q (f x) ≡ false) xs → list_any q (map f (filter p xs)) ≡ false
list_any-kept_mapped q f p [] none = refl
list_any-kept_mapped q f p (x ∷ xs) none = at (p x) refl (list_any-kept_mapped q f p xs (All-tail (λ x. p x ≡ true → q (f x) ≡ false) x xs none))
  where
    at : (b : Bool) → p x ≡ b → list_any q (map f (filter p xs)) ≡ false → list_any q (map f (cond b (x ∷ filter p xs) (filter p xs))) ≡ false
    at true is rest = ap (λ (b : Bool). b || list_any q (map f (filter p xs))) (All-head (λ x. p x ≡ true → q (f x) ≡ false) x xs none is) ∙ rest
    at false is rest = rest

-- apart from each of the others in a mode, and so from all of them together
AreApart-union : (mask domain : ℕ) (groups : List Group) (gid : Option Gid) (mode : Mode) → All (λ (y : Group). is_other_in gid mode y ≡ true → overlaps mask (mask_in domain y) ≡ false) groups
    → overlaps mask (union_of (masks_of_others gid mode domain groups)) ≡ false
AreApart-union mask domain groups gid mode each =
    let masks : List ℕ = masks_of_others gid mode domain groups in
    overlaps-union mask (union_of masks) masks (IsUnion-union_of masks) ∙ list_any-kept_mapped (overlaps mask) (mask_in domain) (is_other_in gid mode) groups each

-- a group in a counted mode is counted
is_counted-mode : (mode : Mode) (y : Group) → is_counted_mode mode ≡ true → has_mode mode y ≡ true → is_counted y ≡ true
is_counted-mode mode y counted has = at y.kind mode y.mode counted has
  where
    at : (kind : GroupKind) (a b : Mode) → is_counted_mode a ≡ true → (is_control kind && is_mode a b) ≡ true → cond (is_control kind) (is_counted_mode b) false ≡ true
    at (Monitor p) a b c e = absurd (let f : false ≡ true = e in cc)
    at Control a Shareable c e = refl
    at Control a Exclusive c e = refl
    at Control Shareable LockSetup c e = absurd (let f : false ≡ true = e in cc)
    at Control Shareable Locked c e = absurd (let f : false ≡ true = e in cc)
    at Control Exclusive LockSetup c e = absurd (let f : false ≡ true = e in cc)
    at Control Exclusive Locked c e = absurd (let f : false ≡ true = e in cc)
    at Control LockSetup b c e = absurd (let f : false ≡ true = c in cc)
    at Control Locked b c e = absurd (let f : false ≡ true = c in cc)

-- another group in a mode, by both tests
other-mode : (gid : Gid) (mode : Mode) (y : Group) → is_other_in (Some gid) mode y ≡ true → (has_gid gid y ≡ false) × (has_mode mode y ≡ true)
other-mode gid mode y is = at (has_gid gid y) (has_mode mode y) is
  where
    at : (a b : Bool) → (not a && b) ≡ true → (a ≡ false) × (b ≡ true)
    at true b e = absurd (let f : false ≡ true = e in cc)
    at false b e = (refl, e)

-- ---- no exclusive group

-- where no counted group is exclusive, nothing exclusive stands against a mask
pub apart-none_exclusive : (mask domain : ℕ) (groups : List Group) (gid : Gid) → All (λ (y : Group). is_counted y ≡ true → y.mode ≡ Shareable) groups → overlaps mask (union_of (masks_of_others (Some gid) Exclusive domain groups)) ≡ false
apart-none_exclusive mask domain groups gid shared = AreApart-union mask domain groups (Some gid) Exclusive (λ k d within is.
    let has = (other-mode gid Exclusive (get_or groups k d) is).1 in
    absurd (at (is_control (get_or groups k d).kind) (get_or groups k d).mode has (shared k d within (is_counted-mode Exclusive (get_or groups k d) refl has))))
  where
    at : (a : Bool) (b : Mode) → (a && is_mode Exclusive b) ≡ true → b ≡ Shareable → ⊥
    at true b e is = let f : false ≡ true = sym (ap (is_mode Exclusive) is) ∙ e in cc
    at false b e is = let f : false ≡ true = e in cc

-- a mask that a shareable group may get
pub write_overlap-shareable : (mask : ℕ) (others : DomainUse) → overlaps mask others.exclusive ≡ false → overlaps mask others.region ≡ false → write_overlap Shareable mask others ≡ Ok tt
unfolding write_overlap
write_overlap-shareable mask others exclusive region = at (overlaps mask others.exclusive) (overlaps mask others.region) exclusive region
  where
    at : (a b : Bool) → a ≡ false → b ≡ false → cond {A = Result (Unit {0}) Overlap} a (Err overlap.Exclusive) (cond b (Err overlap.Region) (Ok tt)) ≡ Ok tt
    at false false e f = refl
    at false true e f = absurd (let g : true ≡ false = f in cc)
    at true b e f = absurd (let g : true ≡ false = e in cc)

-- ---- groups that keep apart

-- in each domain the masks of two counted groups have no way in common
abbrev pub KeepApart : Parameters → Group → Group → Type 0
KeepApart m a b = is_counted a ≡ true → is_counted b ≡ true → (domain : ℕ) → domain < m.domains → overlaps (mask_in domain a) (mask_in domain b) ≡ false

-- in each domain the mask of a counted group has no way that other hardware uses
abbrev pub KeepsOff : Parameters → Group → Type 0
KeepsOff m a = is_counted a ≡ true → (domain : ℕ) → domain < m.domains → overlaps (mask_in domain a) m.shareable ≡ false

-- such a group may be exclusive
pub overlaps_some-none : (m : Parameters) (s : State) (g : Group) → is_counted g ≡ true → KeepsOff m g → ((k : ℕ) (d : Group) → k < length s.groups → has_gid g.gid (get_or s.groups k d) ≡ false → KeepApart m g (get_or s.groups k d))
    → list_any (overlaps_some m s g) (range_with_len 0 m.domains) ≡ false
unfolding is_apart
overlaps_some-none m s g counted off beside = list_any_none (overlaps_some m s g) (range_with_len 0 m.domains) (λ k d below.
    let lt : k < m.domains = subst (λ (n : ℕ). k < n) (length-range_with_len 0 m.domains) below in
    ap (overlaps_some m s g) (get_or-range_with_len 0 m.domains k d lt ∙ zero-add k) ∙ each k lt)
  where
    from : (domain : ℕ) → domain < m.domains → (mode : Mode) → is_counted_mode mode ≡ true → overlaps (mask_in domain g) (union_of (masks_of_others (Some g.gid) mode domain s.groups)) ≡ false
    from domain lt mode is = AreApart-union (mask_in domain g) domain s.groups (Some g.gid) mode (λ k d within has.
        let other = other-mode g.gid mode (get_or s.groups k d) has in
        beside k d within other.0 counted (is_counted-mode mode (get_or s.groups k d) is other.1) domain lt)

    at : (a b c : Bool) → a ≡ false → b ≡ false → c ≡ false → not (not (a || b) && not c) ≡ false
    at false false false e f g = refl
    at true b c e f g = absurd (let h : true ≡ false = e in cc)
    at false true c e f g = absurd (let h : true ≡ false = f in cc)
    at false false true e f g = absurd (let h : true ≡ false = g in cc)

    each : (domain : ℕ) → domain < m.domains → overlaps_some m s g domain ≡ false
    each domain lt = at (overlaps (mask_in domain g) (used_in m s (Some g.gid) domain).shared) (overlaps (mask_in domain g) (used_in m s (Some g.gid) domain).exclusive) (overlaps (mask_in domain g) m.shareable)
        (from domain lt Shareable refl) (from domain lt Exclusive refl) (off counted domain lt)
