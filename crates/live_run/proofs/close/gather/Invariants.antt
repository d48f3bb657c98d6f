use Rattle.std.proofs.Common.{◌+◌, ◌≤◌, ℕ, ◌<◌, length, vec_capacity, slice_index_or, Vec}
use Rattle.std.specs.Vec.Iter.{into_iter_items}
use Rattle.std.specs.declared.alloc.Global.{Global}
use Rattle.cache_core.specs.declared.entry.SliceEntry.{SliceEntry}
use Rattle.live_run.proofs.close.gather.Given as goal
use Rattle.live_run.specs.Closings.{AreGathered}
use Rattle.seen_journal.specs.Passes.{PassValue}

abbrev pub invariant-loop-passes : goal.invariant-loop-passes
invariant-loop-passes g l = record {
  gathered : AreGathered g.N.RunNames.script g.N.RunNames.tree g.N.RunNames.slices l.yielded l.trees.items l.lists.items;
  trees_room : length l.yielded + length (into_iter_items l.passes-iterator) ≤ vec_capacity l.trees;
  lists_room : (k : ℕ) (d : Vec (PassValue SliceEntry) Global) → k < length l.lists.items → length l.yielded + length (into_iter_items l.passes-iterator) ≤ vec_capacity (slice_index_or l.lists.items k d);
}
