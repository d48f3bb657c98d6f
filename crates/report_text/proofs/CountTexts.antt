-- Counts as they are told.
use Rattle.std.proofs.Common.{◌≡◌, ap}
use Rattle.machine.specs.Slices.{slice_count}
use Rattle.cache_core.specs.Whats.{is_access}
use Rattle.run_counts.specs.Tallies.{counted_in}
use Rattle.run_counts.specs.declared.counts.Counts.{Counts}
use Rattle.run_law.specs.Journals.{JournalsValue}
use Rattle.script_ops.specs.Values.{ScriptValue}
use Rattle.report_text.specs.Counts.{counts_text, counts_told}

-- all counts
pub counts_told-all : (script : ScriptValue) (j : JournalsValue) (counts : Counts) → counts ≡ counted_in is_access j (slice_count script.machine) → counts_told counts ≡ counts_text script j is_access
counts_told-all script j counts is = ap counts_told is
