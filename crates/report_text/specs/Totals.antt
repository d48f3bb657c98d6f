-- The last line of a report.
use Rattle.std.specs.Prelude.{ℕ, List, ◌++◌, length, count_by, codes, decimal}
use Rattle.cache_core.specs.Whats.{is_access}
use Rattle.run_counts.specs.Refusals.{is_refusal}
use Rattle.run_law.specs.Journals.{JournalsValue}
use Rattle.run_law.specs.TreeHistory.{TreeEntryValue}
use Rattle.script_ops.specs.Values.{ScriptValue}
use Rattle.report_text.specs.Counts.{counts_text}

-- `total: commands N refused R `
abbrev pub commands_count : List TreeEntryValue → List ℕ
commands_count tree = codes "total: commands " ++ decimal (length tree) ++ codes " refused " ++ decimal (count_by (λ (h : TreeEntryValue). is_refusal h.reply) tree) ++ codes " "

-- the same, and `accesses A hits H misses M`
abbrev pub total_line : ScriptValue → JournalsValue → List ℕ
total_line script j = commands_count j.tree ++ counts_text script j is_access ++ codes "\n"
