-- Counts of accesses, hits and misses over the entries of slices.
use Rattle.std.specs.Prelude.{ℕ, Bool, count_by}
use Rattle.lists.specs.Sums.{sum_below}
use Rattle.cache_core.specs.declared.entry.SliceEntry.{SliceEntry}
use Rattle.cache_core.specs.declared.entry.What.{What}
use Rattle.run_law.specs.Journals.{JournalsValue, slice_at}
use Rattle.machine.specs.Slices.{slice_count}
use Rattle.script_ops.specs.Values.{ScriptValue}

-- how many entries of all slices pass a test
abbrev pub count_entries : ScriptValue → JournalsValue → (What → Bool) → ℕ
count_entries script j p = sum_below (slice_count script.machine) (λ i. count_by (λ (e : SliceEntry). p e.what) (slice_at j i))
