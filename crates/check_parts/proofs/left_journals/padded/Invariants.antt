use Rattle.std.proofs.Common.{◌≡◌, ℕ, length, map}
use Rattle.check_parts.specs.JudgedSlices.{entries_at}
use Rattle.run_law.specs.Entries.{entries_of}
use Rattle.check_parts.proofs.left_journals.padded.Given as goal

abbrev pub invariant-loop : goal.invariant-loop
invariant-loop l = record {
  count : length l.new.items ≡ l.counter;
  same : (i : ℕ) → entries_at (map entries_of l.new.items) i ≡ entries_at (map entries_of l.fn.slices.items) i;
}
