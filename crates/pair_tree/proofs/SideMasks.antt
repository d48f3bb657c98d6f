-- The masks of one side among those of both.
use Rattle.std.proofs.Common.{◌≡◌, ◌+◌, Bool, true, false, cond, List, [], ◌∷◌, ◌++◌, length, map, filter, refl, ap, ◌∙◌, arith}
use Rattle.pair_law.proofs.laws.Sides.{is_same_side-own}
use Rattle.pair_law.specs.Reading.{SideMask, is_same_side, on_side, side_mask}
use Rattle.pair_text.specs.declared.side.Side.{Side}
use Rattle.pair_text.specs.declared.side.Side.TheVariants.{First, Second}
use Rattle.schemata_text.specs.declared.assignment.Assignment.{Assignment}

-- a mask without its side
abbrev pub assignment_of : SideMask → Assignment
assignment_of a = record { domain = a.domain; mask = a.mask }

-- a mask of the side stands before those of the others
pub on_side-own : (side : Side) (a : SideMask) (rest all : List SideMask) → all ≡ a ∷ rest → is_same_side side a.side ≡ true → on_side side all ≡ assignment_of a ∷ on_side side rest
on_side-own side a rest all is own = ap (on_side side) is ∙ rw own refl

-- a mask of the other side is left out
pub on_side-other : (side : Side) (a : SideMask) (rest all : List SideMask) → all ≡ a ∷ rest → is_same_side side a.side ≡ false → on_side side all ≡ on_side side rest
on_side-other side a rest all is other = ap (on_side side) is ∙ rw other refl

-- masks of two lists
pub on_side-append : (side : Side) (xs ys : List SideMask) → on_side side (xs ++ ys) ≡ on_side side xs ++ on_side side ys
on_side-append side [] ys = refl
on_side-append side (x ∷ xs) ys = at (is_same_side side x.side) (on_side-append side xs ys)
  where
    at : (b : Bool) → on_side side (xs ++ ys) ≡ on_side side xs ++ on_side side ys
        → map assignment_of (cond b (x ∷ filter (λ (a : SideMask). is_same_side side a.side) (xs ++ ys)) (filter (λ (a : SideMask). is_same_side side a.side) (xs ++ ys)))
        ≡ map assignment_of (cond b (x ∷ filter (λ (a : SideMask). is_same_side side a.side) xs) (filter (λ (a : SideMask). is_same_side side a.side) xs)) ++ on_side side ys
    at true e = ap (λ (l : List Assignment). assignment_of x ∷ l) e
    at false e = e

-- masks that were made of a side
pub on_side-made : (side : Side) (own : List Assignment) → on_side side (map (side_mask side) own) ≡ own
on_side-made side [] = refl
on_side-made side (a ∷ own) = rw (is_same_side-own side) (ap (λ (l : List Assignment). a ∷ l) (on_side-made side own))

-- masks that were made of the other
pub on_side-made_other : (side other : Side) (own : List Assignment) → is_same_side side other ≡ false → on_side side (map (side_mask other) own) ≡ []
on_side-made_other side other [] differ = refl
on_side-made_other side other (a ∷ own) differ = rw differ (on_side-made_other side other own differ)

-- each mask is of one side
pub length-sides : (all : List SideMask) → length (on_side First all) + length (on_side Second all) ≡ length all
length-sides [] = refl
length-sides (a ∷ all) = at a.side (length-sides all)
  where
    at : (s : Side) → length (on_side First all) + length (on_side Second all) ≡ length all
        → length (map assignment_of (cond (is_same_side First s) (a ∷ filter (λ (x : SideMask). is_same_side First x.side) all) (filter (λ (x : SideMask). is_same_side First x.side) all)))
        + length (map assignment_of (cond (is_same_side Second s) (a ∷ filter (λ (x : SideMask). is_same_side Second x.side) all) (filter (λ (x : SideMask). is_same_side Second x.side) all))) ≡ length (a ∷ all)
    at First e = omega arith
    at Second e = omega arith
