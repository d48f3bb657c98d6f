use Rattle.std.proofs.Common.{◌≡◌, ◌+◌, ◌<◌, ℕ, List, length, get_or}
use Rattle.private_lru.specs.declared.item.Item.{Item}
use Rattle.way_curve.specs.IsCurve.{IsItemCurve}
use Rattle.way_curve.specs.ItemCurves.{item_hits_of}
use Rattle.way_plans.proofs.rows.misses_of.Given as goal

abbrev pub invariant-loop-ways : goal.invariant-loop-ways
invariant-loop-ways l = record {
  all : length l.row ≡ 33;
  each : (k : ℕ) → k < l.ways → (items : List Item) → IsItemCurve l.curve items → get_or l.row k 0 + item_hits_of l.curve.sets k items ≡ l.curve.uses;
}
