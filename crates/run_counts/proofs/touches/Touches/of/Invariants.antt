use Rattle.std.proofs.Common.{◌≡◌, ℕ, List, length, map, take, None}
use Rattle.std.specs.Prelude.{slice_index_or}
use Rattle.std.specs.List.{flat_map}
use Rattle.cache_core.specs.declared.entry.SliceEntry.{SliceEntry}
use Rattle.run_counts.specs.Touches.{touch_hit}
use Rattle.run_law.specs.Entries.{entry_value}
use Rattle.run_law.specs.Journals.{At}
use Rattle.run_law.specs.TreeHistory.{TreeEntryValue}
use Rattle.run_counts.proofs.touches.Touches.of.Given as goal

abbrev pub invariant-loop-i : goal.invariant-loop-i
invariant-loop-i l = record {
  size : length l.hits.items ≡ length l.tree;
  hits : (k : ℕ) (h : TreeEntryValue) → At (map entry_value l.tree) k h → slice_index_or l.hits.items k None ≡ touch_hit k h (flat_map (λ (es : List SliceEntry). es) (take l.i l.journals.slices));
}
