-- Counts of the groups that have a way, when a group comes, goes or is replaced.
use Rattle.std.proofs.Common.{◌≡◌, ℕ, zero, suc, ◌+◌, ◌<◌, ◌≤◌, Bool, true, false, ◌&&◌, cond, eqb, List, [], ◌∷◌, ◌++◌, length, find, get_or, Option, Some, None, refl, sym, subst, ap, ◌∙◌, arith}
use Rattle.std.specs.Int.{bit_at}
use Rattle.std.specs.List.{count_by}
use Rattle.std.proofs.lemmas.List.Sums.{count_by-le-length, sum_by_push}
use Rattle.std.proofs.lemmas.Nat.Bits.{bit_at-lt}
use Rattle.cbm.specs.Masks.{has_way}
use Rattle.rc_base.specs.declared.names.Gid.{Gid}
use Rattle.rc_base.specs.declared.names.Mode.{Mode}
use Rattle.rc_base.specs.declared.names.Mode.TheVariants.{Shareable, Exclusive, LockSetup, Locked}
use Rattle.group_tree.specs.Counts.{IsCountOf, ModeCountsAre, added_in, groups_with, has_way_in, no_counts, own_group, removed_in, with_group, without_group, without_some}
use Rattle.group_tree.specs.Lists.{GidsDiffer, replaced, without}
use Rattle.group_tree.specs.Records.{has_gid, is_control, is_mode, mask_in}
use Rattle.group_tree.specs.declared.group.Group.{Group}
use Rattle.group_tree.specs.declared.mode_counts.ModeCounts.{ModeCounts}
use Rattle.group_tree.proofs.Digits.{CountsAre-added, CountsAre-none, CountsAre-removed, CountsAre-same}
use Rattle.group_tree.proofs.TestedGroups.{count_by-cons, others_than, one_if, count_by-without, count_by-others, count_by-replaced}

-- a mask more in a mode
ModeCountsAre-added_in : (mode : Mode) (mask : ℕ) (counts : ModeCounts) (number next : Mode → ℕ → ℕ) → ModeCountsAre counts number
    → ((m : Mode) (way : ℕ) → next m way ≡ number m way + cond (is_mode m mode) (bit_at mask way) 0) → ((m : Mode) (way : ℕ) → next m way < 512)
    → ModeCountsAre (added_in mode mask counts) next
ModeCountsAre-added_in Shareable mask counts number next are more few = record {
  shareable = CountsAre-added mask counts.shareable.digits (number Shareable) (next Shareable) are.shareable (more Shareable) (few Shareable);
  exclusive = CountsAre-same counts.exclusive.digits (number Exclusive) (next Exclusive) are.exclusive (λ way. omega (arith, more Exclusive way));
  locked = CountsAre-same counts.locked.digits (number Locked) (next Locked) are.locked (λ way. omega (arith, more Locked way));
}
ModeCountsAre-added_in Exclusive mask counts number next are more few = record {
  shareable = CountsAre-same counts.shareable.digits (number Shareable) (next Shareable) are.shareable (λ way. omega (arith, more Shareable way));
  exclusive = CountsAre-added mask counts.exclusive.digits (number Exclusive) (next Exclusive) are.exclusive (more Exclusive) (few Exclusive);
  locked = CountsAre-same counts.locked.digits (number Locked) (next Locked) are.locked (λ way. omega (arith, more Locked way));
}
ModeCountsAre-added_in Locked mask counts number next are more few = record {
  shareable = CountsAre-same counts.shareable.digits (number Shareable) (next Shareable) are.shareable (λ way. omega (arith, more Shareable way));
  exclusive = CountsAre-same counts.exclusive.digits (number Exclusive) (next Exclusive) are.exclusive (λ way. omega (arith, more Exclusive way));
  locked = CountsAre-added mask counts.locked.digits (number Locked) (next Locked) are.locked (more Locked) (few Locked);
}
ModeCountsAre-added_in LockSetup mask counts number next are more few = record {
  shareable = CountsAre-same counts.shareable.digits (number Shareable) (next Shareable) are.shareable (λ way. omega (arith, more Shareable way));
  exclusive = CountsAre-same counts.exclusive.digits (number Exclusive) (next Exclusive) are.exclusive (λ way. omega (arith, more Exclusive way));
  locked = CountsAre-same counts.locked.digits (number Locked) (next Locked) are.locked (λ way. omega (arith, more Locked way));
}

-- a mask fewer in a mode
ModeCountsAre-removed_in : (mode : Mode) (mask : ℕ) (counts : ModeCounts) (number next : Mode → ℕ → ℕ) → ModeCountsAre counts number
    → ((m : Mode) (way : ℕ) → next m way + cond (is_mode m mode) (bit_at mask way) 0 ≡ number m way)
    → ModeCountsAre (removed_in mode mask counts) next
ModeCountsAre-removed_in Shareable mask counts number next are fewer = record {
  shareable = CountsAre-removed mask counts.shareable.digits (number Shareable) (next Shareable) are.shareable (fewer Shareable);
  exclusive = CountsAre-same counts.exclusive.digits (number Exclusive) (next Exclusive) are.exclusive (λ way. omega (arith, fewer Exclusive way));
  locked = CountsAre-same counts.locked.digits (number Locked) (next Locked) are.locked (λ way. omega (arith, fewer Locked way));
}
ModeCountsAre-removed_in Exclusive mask counts number next are fewer = record {
  shareable = CountsAre-same counts.shareable.digits (number Shareable) (next Shareable) are.shareable (λ way. omega (arith, fewer Shareable way));
  exclusive = CountsAre-removed mask counts.exclusive.digits (number Exclusive) (next Exclusive) are.exclusive (fewer Exclusive);
  locked = CountsAre-same counts.locked.digits (number Locked) (next Locked) are.locked (λ way. omega (arith, fewer Locked way));
}
ModeCountsAre-removed_in Locked mask counts number next are fewer = record {
  shareable = CountsAre-same counts.shareable.digits (number Shareable) (next Shareable) are.shareable (λ way. omega (arith, fewer Shareable way));
  exclusive = CountsAre-same counts.exclusive.digits (number Exclusive) (next Exclusive) are.exclusive (λ way. omega (arith, fewer Exclusive way));
  locked = CountsAre-removed mask counts.locked.digits (number Locked) (next Locked) are.locked (fewer Locked);
}
ModeCountsAre-removed_in LockSetup mask counts number next are fewer = record {
  shareable = CountsAre-same counts.shareable.digits (number Shareable) (next Shareable) are.shareable (λ way. omega (arith, fewer Shareable way));
  exclusive = CountsAre-same counts.exclusive.digits (number Exclusive) (next Exclusive) are.exclusive (λ way. omega (arith, fewer Exclusive way));
  locked = CountsAre-same counts.locked.digits (number Locked) (next Locked) are.locked (λ way. omega (arith, fewer Locked way));
}

-- the same numbers
ModeCountsAre-same : (counts : ModeCounts) (number next : Mode → ℕ → ℕ) → ModeCountsAre counts number → ((m : Mode) (way : ℕ) → next m way ≡ number m way) → ModeCountsAre counts next
ModeCountsAre-same counts number next are same = record {
  shareable = CountsAre-same counts.shareable.digits (number Shareable) (next Shareable) are.shareable (same Shareable);
  exclusive = CountsAre-same counts.exclusive.digits (number Exclusive) (next Exclusive) are.exclusive (same Exclusive);
  locked = CountsAre-same counts.locked.digits (number Locked) (next Locked) are.locked (same Locked);
}

-- a control group counts where it is in the mode and its mask has the way
has_way_in-bit : (mode_is : Bool) (mask way : ℕ) → cond (mode_is && has_way mask way) 1 0 ≡ cond mode_is (bit_at mask way) 0
has_way_in-bit false mask way = refl
has_way_in-bit true mask way = at (bit_at mask way) (bit_at-lt mask way)
  where
    at : (n : ℕ) → n < 2 → cond (eqb n 1) 1 0 ≡ n
    at zero small = refl
    at (suc zero) small = refl
    at (suc (suc n)) small = absurd (omega arith)

-- a group more
ModeCountsAre-with_group : (g : Group) (domain : ℕ) (counts : ModeCounts) (number next : Mode → ℕ → ℕ) → ModeCountsAre counts number
    → ((m : Mode) (way : ℕ) → next m way ≡ number m way + cond (has_way_in m domain way g) 1 0) → ((m : Mode) (way : ℕ) → next m way < 512)
    → ModeCountsAre (with_group g domain counts) next
ModeCountsAre-with_group g domain counts number next are more few = at (is_control g.kind) more
  where
    at : (control : Bool) → ((m : Mode) (way : ℕ) → next m way ≡ number m way + cond ((control && is_mode m g.mode) && has_way (mask_in domain g) way) 1 0)
        → ModeCountsAre (cond control (added_in g.mode (mask_in domain g) counts) counts) next
    at true change = ModeCountsAre-added_in g.mode (mask_in domain g) counts number next are (λ m way. change m way ∙ ap (λ (n : ℕ). number m way + n) (has_way_in-bit (is_mode m g.mode) (mask_in domain g) way)) few
    at false change = ModeCountsAre-same counts number next are (λ m way. omega (arith, change m way))

-- a group fewer
ModeCountsAre-without_group : (g : Group) (domain : ℕ) (counts : ModeCounts) (number next : Mode → ℕ → ℕ) → ModeCountsAre counts number
    → ((m : Mode) (way : ℕ) → next m way + cond (has_way_in m domain way g) 1 0 ≡ number m way)
    → ModeCountsAre (without_group g domain counts) next
ModeCountsAre-without_group g domain counts number next are fewer = at (is_control g.kind) fewer
  where
    at : (control : Bool) → ((m : Mode) (way : ℕ) → next m way + cond ((control && is_mode m g.mode) && has_way (mask_in domain g) way) 1 0 ≡ number m way)
        → ModeCountsAre (cond control (removed_in g.mode (mask_in domain g) counts) counts) next
    at true change = ModeCountsAre-removed_in g.mode (mask_in domain g) counts number next are (λ m way. ap (λ (n : ℕ). next m way + n) (sym (has_way_in-bit (is_mode m g.mode) (mask_in domain g) way)) ∙ change m way)
    at false change = ModeCountsAre-same counts number next are (λ m way. omega (arith, change m way))

-- ---- the counts of all groups

-- a group more
IsCountOf-more : (g : Group) (gs next : List Group) (counts new : List ModeCounts) → IsCountOf gs counts
    → ((p : Group → Bool) → count_by p next ≡ count_by p gs + cond (p g) 1 0) → length next ≤ 328
    → length new ≡ 8 → ((domain : ℕ) (d : ModeCounts) → domain < 8 → get_or new domain d ≡ with_group g domain (get_or counts domain d))
    → IsCountOf next new
IsCountOf-more g gs next counts new is more few size each = record {
  size = size;
  each = λ domain d exists. subst (λ (c : ModeCounts). ModeCountsAre c (groups_with next domain)) (sym (each domain d exists))
      (ModeCountsAre-with_group g domain (get_or counts domain d) (groups_with gs domain) (groups_with next domain) (is.each domain d exists) (λ m way. more (has_way_in m domain way))
      (λ m way. omega (arith, few, count_by-le-length (has_way_in m domain way) next)));
}

-- a group fewer
IsCountOf-fewer : (g : Group) (gs next : List Group) (counts new : List ModeCounts) → IsCountOf gs counts
    → ((p : Group → Bool) → count_by p next + cond (p g) 1 0 ≡ count_by p gs)
    → length new ≡ 8 → ((domain : ℕ) (d : ModeCounts) → domain < 8 → get_or new domain d ≡ without_group g domain (get_or counts domain d))
    → IsCountOf next new
IsCountOf-fewer g gs next counts new is fewer size each = record {
  size = size;
  each = λ domain d exists. subst (λ (c : ModeCounts). ModeCountsAre c (groups_with next domain)) (sym (each domain d exists))
      (ModeCountsAre-without_group g domain (get_or counts domain d) (groups_with gs domain) (groups_with next domain) (is.each domain d exists) (λ m way. fewer (has_way_in m domain way)));
}

-- the first group
pub IsCountOf-one : (g : Group) (new : List ModeCounts) → length new ≡ 8 → ((domain : ℕ) (d : ModeCounts) → domain < 8 → get_or new domain d ≡ with_group g domain no_counts) → IsCountOf (g ∷ []) new
IsCountOf-one g new size each = record {
  size = size;
  each = λ domain d exists. subst (λ (c : ModeCounts). ModeCountsAre c (groups_with (g ∷ []) domain)) (sym (each domain d exists))
      (ModeCountsAre-with_group g domain no_counts (λ m way. 0) (groups_with (g ∷ []) domain) none (λ m way. omega (arith, count_by-cons (has_way_in m domain way) g []))
      (λ m way. omega (arith, count_by-le-length (has_way_in m domain way) (g ∷ []))));
}
  where
    none : ModeCountsAre no_counts (λ m way. 0)
    none = record { shareable = CountsAre-none (λ way. 0) (λ way. refl); exclusive = CountsAre-none (λ way. 0) (λ way. refl); locked = CountsAre-none (λ way. 0) (λ way. refl) }

-- a new group
pub IsCountOf-inserted : (g : Group) (gs : List Group) (counts new : List ModeCounts) → IsCountOf gs counts → length (gs ++ g ∷ []) ≤ 328
    → length new ≡ 8 → ((domain : ℕ) (d : ModeCounts) → domain < 8 → get_or new domain d ≡ with_group g domain (get_or counts domain d))
    → IsCountOf (gs ++ g ∷ []) new
IsCountOf-inserted g gs counts new is few size each = IsCountOf-more g gs (gs ++ g ∷ []) counts new is (λ p. sum_by_push (λ (x : Group). cond (p x) 1 0) gs g) few size each

-- a group that is removed
pub IsCountOf-without : (gid : Gid) (old : Group) (gs : List Group) (counts new : List ModeCounts) → IsCountOf gs counts → GidsDiffer gs → find (has_gid gid) gs ≡ Some old
    → length new ≡ 8 → ((domain : ℕ) (d : ModeCounts) → domain < 8 → get_or new domain d ≡ without_group old domain (get_or counts domain d))
    → IsCountOf (without gid gs) new
IsCountOf-without gid old gs counts new is differ found size each =
    IsCountOf-fewer old gs (without gid gs) counts new is (λ p. ap (λ (o : Option Group). count_by p (without gid gs) + one_if p o) (sym found) ∙ count_by-without p gid gs differ) size each

-- a record that takes its place then
pub IsCountOf-replaced : (g old : Group) (gs : List Group) (counts new : List ModeCounts) → IsCountOf (without g.gid gs) counts → GidsDiffer gs → find (has_gid g.gid) gs ≡ Some old → length (replaced g gs) ≤ 328
    → length new ≡ 8 → ((domain : ℕ) (d : ModeCounts) → domain < 8 → get_or new domain d ≡ with_group g domain (get_or counts domain d))
    → IsCountOf (replaced g gs) new
IsCountOf-replaced g old gs counts new is differ found few size each = IsCountOf-more g (without g.gid gs) (replaced g gs) counts new is (λ p. count_by-replaced p g old gs found differ) few size each

-- ---- but for one

-- the counts of the others
pub ModeCountsAre-without_some : (gid : Option Gid) (domain : ℕ) (gs : List Group) (counts : ModeCounts) → GidsDiffer gs → ModeCountsAre counts (groups_with gs domain)
    → ModeCountsAre (without_some (own_group gid gs) domain counts) (groups_with (others_than gid gs) domain)
ModeCountsAre-without_some gid domain gs counts differ are = at (own_group gid gs) (λ p. count_by-others p gid gs differ)
  where
    at : (o : Option Group) → ((p : Group → Bool) → count_by p (others_than gid gs) + one_if p o ≡ count_by p gs) → ModeCountsAre (without_some o domain counts) (groups_with (others_than gid gs) domain)
    at None change = ModeCountsAre-same counts (groups_with gs domain) (groups_with (others_than gid gs) domain) are (λ m way. omega (arith, change (has_way_in m domain way)))
    at (Some g) change = ModeCountsAre-without_group g domain counts (groups_with gs domain) (groups_with (others_than gid gs) domain) are (λ m way. change (has_way_in m domain way))
