-- What the other groups use, as their counts tell it.
use Rattle.std.proofs.Common.{◌≡◌, ℕ, ◌+◌, Bool, true, false, ◌&&◌, ◌||◌, cond, bit_or, List, [], ◌∷◌, ◌++◌, length, map, get_or, take, Option, refl, sym, subst, ap, ap₂, ◌∙◌, ◌<◌}
use Rattle.std.specs.List.{count_by, list_any}
use Rattle.std.proofs.lemmas.List.{take_more}
use Rattle.std.proofs.lemmas.List.Folds.{list_any-append}
use Rattle.std.proofs.Math.Bool.{or-false}
use Rattle.cbm.specs.Masks.{IsUnion, has_way}
use Rattle.cbm.proofs.laws.Ways.{has_way-bit_or}
use Rattle.rc_base.specs.declared.names.Gid.{Gid}
use Rattle.rc_base.specs.declared.names.Mode.{Mode}
use Rattle.group_tree.specs.declared.group.Group.{Group}
use Rattle.group_tree.specs.Counts.{CountsAre, groups_with, has_way_in}
use Rattle.group_tree.specs.Others.{IsUnionOfOthers, masks_of_others, others_in}
use Rattle.group_tree.specs.Records.{has_mode, is_other, mask_in}
use Rattle.group_tree.proofs.TestedGroups.{count_by-cons, others_than}
use Rattle.group_tree.proofs.Digits.{Tells, Tells-digits, Tells-one, Tells-same, zero-plus}

-- one more mask is joined by `|`
IsUnion-push : (union mask : ℕ) (masks : List ℕ) → IsUnion union masks → IsUnion (bit_or union mask) (masks ++ mask ∷ [])
IsUnion-push union mask masks is_union = λ way.
    has_way-bit_or union mask way
    ∙ ap₂ (λ (a b : Bool). a || b) (is_union way) (sym (or-false (has_way mask way)))
    ∙ sym (list_any-append (λ m. has_way m way) masks (mask ∷ []))

-- the masks one after the other
pub IsUnion-next : (union : ℕ) (masks : List ℕ) (i d : ℕ) → i < length masks → IsUnion union (take i masks) → IsUnion (bit_or union (get_or masks i d)) (take (i + 1) masks)
IsUnion-next union masks i d within is_union = subst (IsUnion (bit_or union (get_or masks i d))) (sym (take_more masks i d within)) (IsUnion-push union (get_or masks i d) (take i masks) is_union)

-- a way is in the mask of another group in a mode where some other group is counted that has it
Tells-others : (gid : Option Gid) (mode : Mode) (domain way : ℕ) (gs : List Group) → Tells (list_any (λ (mask : ℕ). has_way mask way) (masks_of_others gid mode domain gs)) (count_by (has_way_in mode domain way) (others_than gid gs))
Tells-others gid mode domain way [] = refl
Tells-others gid mode domain way (g ∷ gs) = at (is_other gid g) (has_mode mode g) refl (Tells-others gid mode domain way gs)
  where
    at : (b c : Bool) → has_mode mode g ≡ c → Tells (list_any (λ (mask : ℕ). has_way mask way) (masks_of_others gid mode domain gs)) (count_by (has_way_in mode domain way) (others_than gid gs))
        → Tells (list_any (λ (mask : ℕ). has_way mask way) (map (mask_in domain) (cond (b && c) (g ∷ others_in gid mode gs) (others_in gid mode gs)))) (count_by (has_way_in mode domain way) (cond b (g ∷ others_than gid gs) (others_than gid gs)))
    at false c e rest = rest
    at true true e rest = subst (Tells (has_way (mask_in domain g) way || list_any (λ (mask : ℕ). has_way mask way) (masks_of_others gid mode domain gs)))
        (sym (count_by-cons (has_way_in mode domain way) g (others_than gid gs) ∙ ap (λ (b : Bool). cond (b && has_way (mask_in domain g) way) 1 0 + count_by (has_way_in mode domain way) (others_than gid gs)) e))
        (Tells-one (has_way (mask_in domain g) way) (list_any (λ (mask : ℕ). has_way mask way) (masks_of_others gid mode domain gs)) (count_by (has_way_in mode domain way) (others_than gid gs)) rest)
    at true false e rest = subst (Tells (list_any (λ (mask : ℕ). has_way mask way) (masks_of_others gid mode domain gs)))
        (zero-plus (count_by (has_way_in mode domain way) (others_than gid gs)) ∙ sym (count_by-cons (has_way_in mode domain way) g (others_than gid gs) ∙ ap (λ (b : Bool). cond (b && has_way (mask_in domain g) way) 1 0 + count_by (has_way_in mode domain way) (others_than gid gs)) e)) rest

-- so the union of the digits is the union of the masks
pub IsUnionOfOthers-counted : (gid : Option Gid) (mode : Mode) (domain : ℕ) (gs : List Group) (digits : List ℕ) (union : ℕ) → CountsAre digits (groups_with (others_than gid gs) domain mode) → IsUnion union digits → IsUnionOfOthers gid mode domain gs union
IsUnionOfOthers-counted gid mode domain gs digits union are is_union = λ way.
    is_union way
    ∙ Tells-same (list_any (λ (digit : ℕ). has_way digit way) digits) (list_any (λ (mask : ℕ). has_way mask way) (masks_of_others gid mode domain gs)) (count_by (has_way_in mode domain way) (others_than gid gs))
    (subst (Tells (list_any (λ (digit : ℕ). has_way digit way) digits)) (are.each way) (Tells-digits way digits))
    (Tells-others gid mode domain way gs)
