use Rattle.std.proofs.Common.{◌≡◌, ◌≤◌, ℕ, List, length, map}
use Rattle.cache_core.specs.declared.entry.SliceEntry.{SliceEntry}
use Rattle.check_parts.specs.JudgedSlices.{AreLooks, entries_at}
use Rattle.run_law.specs.Entries.{entries_of}
use Rattle.check_parts.proofs.judged_slices.with_looks.Given as goal

abbrev pub invariant-loop-i : goal.invariant-loop-i
invariant-loop-i l = record {
  count : length l.new.items ≡ l.i;
  looks : (all : List (List SliceEntry)) (n : ℕ) → n ≤ l.count → AreLooks l.script all n (map entries_of l.fn.looks.items)
      → ((i : ℕ) → n ≤ i → entries_at l.left.slices i ≡ entries_at all i) → AreLooks l.script all l.i (map entries_of l.new.items);
}
