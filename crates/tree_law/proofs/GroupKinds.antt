-- Kinds of groups, and the default group.
use Rattle.std.proofs.Common.{◌≡◌, ◌≢◌, ℕ, ◌<◌, Bool, true, false, ◌&&◌, cond, List, [], ◌∷◌, length, get_or, IsSomeAnd, refl, sym, subst, ap, ◌∙◌, arith}
use Rattle.std.specs.List.{slice_get}
use Rattle.group_tree.specs.Records.{has_mode, is_control, is_mode}
use Rattle.group_tree.specs.declared.group.Group.{Group}
use Rattle.group_tree.specs.declared.group_kind.GroupKind.{GroupKind}
use Rattle.group_tree.specs.declared.group_kind.GroupKind.TheVariants.{Control, Monitor}
use Rattle.lists.proofs.Keyed.{place-key}
use Rattle.lists.proofs.Tests.{IsFound}
use Rattle.rc_base.specs.declared.names.Gid.{Gid}
use Rattle.rc_base.specs.declared.names.Mode.TheVariants.{Locked}
use Rattle.tree_law.proofs.Groups.{gid_number}
use Rattle.tree_law.specs.Counted.{is_counted, is_counted_mode}
use Rattle.tree_law.specs.Sound.{AreNamed, IsDefault}

-- a counted group is a control group
pub is_control-counted : (x : Group) → is_counted x ≡ true → is_control x.kind ≡ true
is_control-counted x counted = at x.kind counted
  where
    at : (kind : GroupKind) → cond (is_control kind) (is_counted_mode x.mode) false ≡ true → is_control kind ≡ true
    at Control e = refl
    at (Monitor p) e = absurd (let f : false ≡ true = e in cc)

-- a pseudo-locked group is a control group
pub is_control-locked : (x : Group) → has_mode Locked x ≡ true → is_control x.kind ≡ true
is_control-locked x is = at x.kind is
  where
    at : (kind : GroupKind) → (is_control kind && is_mode Locked x.mode) ≡ true → is_control kind ≡ true
    at Control e = refl
    at (Monitor p) e = absurd (let f : false ≡ true = e in cc)

-- the default group stands at the first place
IsDefault-first : (groups : List Group) (d : Group) → IsSomeAnd (slice_get groups 0) IsDefault → (0 < length groups) × IsDefault (get_or groups 0 d)
IsDefault-first [] d first = absurd first
IsDefault-first (x ∷ xs) d first = (omega arith, first)

-- a group that is not the default group has another gid
pub gid-not_default : (groups : List Group) (next_gid : ℕ) (name : Group → Bool) (c : Group) (gid : Gid) → AreNamed groups next_gid → IsFound name groups c → c.gid ≡ gid → (IsDefault c → ⊥) → gid.0 ≢ 0
gid-not_default groups next_gid name c gid named found is different zeroth =
    let first = IsDefault-first groups c named.first in
    let same : (get_or groups found.place c).gid.0 ≡ (get_or groups 0 c).gid.0 = ap (λ (x : Group). x.gid.0) (found.at c) ∙ ap (λ (i : Gid). i.0) is ∙ zeroth ∙ sym first.1.gid in
    let place : found.place ≡ 0 = place-key gid_number groups found.place 0 c named.gids found.within first.0 same in
    different (subst IsDefault (ap (λ (n : ℕ). get_or groups n c) (sym place) ∙ found.at c) first.1)
