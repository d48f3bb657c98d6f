-- Which lists of uses a curve has counted, and what a use and a drop add.
-- (For functions and proofs: no promise of the program stands on it.)
use Rattle.std.specs.Prelude.{◌≡◌, ℕ, ◌^◌, ◌<◌, ◌≤◌, List, [], ◌∷◌, ◌++◌, length, take, sum, slice_index_or, Option}
use Rattle.std.specs.List.{range_with_len}
use Rattle.private_lru.specs.declared.item.Item.{Item}
use Rattle.way_curve.specs.Curves.{uses_of_set, set_hits_of}
use Rattle.way_curve.specs.ItemCurves.{item_hits_of, items_of_set, uses_in}
use Rattle.way_curve.specs.Slots.{Serve}

-- what contracts see: how many sets and uses there are, the slots of each set, and how many uses came from each slot
pub record CurveValue : Type 0 where
  pub sets : ℕ
  pub uses : ℕ
  pub recent : List (List (Option ℕ))
  pub at_distance : List ℕ

-- The curve is that of these uses, in order: the slots of each set are those of the lines that are used in it, and as many uses came
-- from the first slots, as many as there are ways, as hit.
pub record IsCurve (curve : CurveValue) (lines : List ℕ) : Type 0 where
  pub uses : curve.uses ≡ length lines
  pub recent : (set : ℕ) → set < curve.sets → Serve (slice_index_or curve.recent set []) (uses_of_set curve.sets set lines)
  pub hits : (ways : ℕ) → ways ≤ 32 → sum (take ways curve.at_distance) ≡ set_hits_of curve.sets ways lines

-- Whatever uses the curve was that of, it is now that of these and one more.
abbrev pub AddsUse : CurveValue → CurveValue → ℕ → Type 0
AddsUse old new line = (lines : List ℕ) → IsCurve old lines → IsCurve new (lines ++ line ∷ [])

-- The curve is that of these uses and drops, in order.
pub record IsItemCurve (curve : CurveValue) (items : List Item) : Type 0 where
  pub uses : curve.uses ≡ uses_in items
  pub recent : (set : ℕ) → set < curve.sets → Serve (slice_index_or curve.recent set []) (items_of_set curve.sets set items)
  pub hits : (ways : ℕ) → ways ≤ 32 → sum (take ways curve.at_distance) ≡ item_hits_of curve.sets ways items

-- Whatever uses and drops the curve was that of, it is now that of these and one more.
abbrev pub AddsItem : CurveValue → CurveValue → Item → Type 0
AddsItem old new item = (items : List Item) → IsItemCurve old items → IsItemCurve new (items ++ item ∷ [])

-- Whatever uses the curve was that of, if these end with so many lines one after the other, it is now that of these and of the same
-- lines once more.
abbrev pub RepeatsRun : CurveValue → CurveValue → ℕ → Type 0
RepeatsRun old new lines = (earlier : List ℕ) (first : ℕ) → IsCurve old (earlier ++ range_with_len first lines) → IsCurve new ((earlier ++ range_with_len first lines) ++ range_with_len first lines)

-- a curve's parts: there is a set, and no more uses came at some distance than there are
pub record IsKept (sets uses : ℕ) (at_distance : List ℕ) : Type 0 where
  pub some : 0 < sets
  pub within : sum at_distance ≤ uses
  pub fits : uses < 2 ^ 64
