use Rattle.std.proofs.Common.{◌≡◌, ◌+◌, ◌≤◌, length, map, vec_capacity}
use Rattle.std.specs.Vec.Iter.{into_iter_items}
use Rattle.run_law.specs.Entries.{entries_of}
use Rattle.step_world.specs.Slices.{SliceValue}
use Rattle.step_world.proofs.closing.take_entries.Given as goal

abbrev pub invariant-loop-slice : goal.invariant-loop-slice
invariant-loop-slice l = record {
  taken : map entries_of l.all.items ≡ map (λ (s : SliceValue). s.entries) l.yielded;
  room : length l.all.items + length (into_iter_items l.slice-iterator) ≤ vec_capacity l.all;
}
