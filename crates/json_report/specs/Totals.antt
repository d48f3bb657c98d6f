-- The value of all accesses and commands.
use Rattle.std.specs.Prelude.{ℕ, [], ◌∷◌, codes, count_by, length}
use Rattle.json_report.specs.Values.{object_of, whole}
use Rattle.machine.specs.Slices.{slice_count}
use Rattle.cache_core.specs.Whats.{is_access}
use Rattle.run_counts.specs.Refusals.{is_refusal}
use Rattle.run_counts.specs.Tallies.{counted_in}
use Rattle.run_counts.specs.declared.counts.Counts.{Counts}
use Rattle.run_law.specs.Journals.{JournalsValue}
use Rattle.run_law.specs.TreeHistory.{TreeEntryValue}
use Rattle.script_ops.specs.Values.{ScriptValue}
use Rattle.serde_json.specs.Data.{Data}

-- the object of these numbers of commands and refused commands, and of these counts of accesses
unfoldable pub total_of_counts : ℕ → ℕ → Counts → Data
total_of_counts commands refused counts =
    object_of
    ((codes "accesses", whole counts.accesses)
    ∷ (codes "commands", whole commands)
    ∷ (codes "hits", whole counts.hits)
    ∷ (codes "misses", whole counts.misses)
    ∷ (codes "refused", whole refused)
    ∷ [])

-- the total of a run
abbrev pub total_value : ScriptValue → JournalsValue → Data
total_value script j =
    total_of_counts (length j.tree) (count_by (λ (h : TreeEntryValue). is_refusal h.reply) j.tree) (counted_in is_access j (slice_count script.machine))
