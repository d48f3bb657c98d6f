use Rattle.std.proofs.Common.{◌≡◌, ◌+◌, ◌≤◌, ◌<◌, ◌++◌, ℕ, Vec, length, map, slice_index_or, vec_capacity}
use Rattle.std.specs.Vec.Iter.{into_iter_items}
use Rattle.std.specs.declared.alloc.Global.{Global}
use Rattle.cache_core.specs.declared.entry.SliceEntry.{SliceEntry}
use Rattle.live_run.proofs.close.close_each.Given as goal
use Rattle.live_run.specs.Cells.{SliceCellValue}
use Rattle.live_run.specs.Closings.{HaveAll}
use Rattle.run_law.specs.Entries.{entries_of}
use Rattle.seen_journal.specs.Entries.{list_of}
use Rattle.seen_journal.specs.Passes.{PassValue}

abbrev pub invariant-loop-part : goal.invariant-loop-part
invariant-loop-part g l = record {
  split : l.fn.parts.items ≡ l.yielded ++ into_iter_items l.part-iterator;
  closed : map entries_of l.all.items ≡ map (λ (c : SliceCellValue). list_of c.journal.entries) l.yielded;
  left : length l.lists.items + length l.yielded ≡ length l.fn.parts.items;
  same : (k : ℕ) (d : Vec (PassValue SliceEntry) Global) → k < length l.lists.items → slice_index_or l.lists.items k d ≡ slice_index_or l.fn.lists.items k d;
  room : length l.all.items + length (into_iter_items l.part-iterator) ≤ vec_capacity l.all;
  have : HaveAll (length l.yielded) l.fn.parts.items l.fn.lists.items;
}
