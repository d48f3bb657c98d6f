-- The JSON report in two: its first part, for which the commands are taken once more, and the rest.
-- (For functions and proofs: no promise of the program stands on it.)
use Rattle.std.specs.Prelude.{ℕ, List, true, false, not, [], ◌∷◌, ◌++◌, codes}
use Rattle.json_report.specs.Domains.{domain_values}
use Rattle.json_report.specs.Groups.{group_values}
use Rattle.json_report.specs.Pieces.{members_told}
use Rattle.json_report.specs.Reporting.{commands_part}
use Rattle.json_report.specs.SliceValues.{journal_part}
use Rattle.json_report.specs.Totals.{total_value}
use Rattle.json_report.specs.Values.{array_of}
use Rattle.json_report.specs.WindowValues.{windows_part}
use Rattle.run_law.specs.Journals.{JournalsValue}
use Rattle.report_pieces.specs.declared.flags.Flags.{Flags}
use Rattle.run_counts.specs.declared.window.Window.{Window}
use Rattle.script_ops.specs.Values.{ScriptValue}

-- the opening brace and the commands
unfoldable pub head_of : ScriptValue → JournalsValue → Flags → List ℕ
head_of script j flags = codes "{" ++ members_told false (commands_part script j flags.quiet)

-- the other members, the closing brace and the newline
unfoldable pub tail_of : ScriptValue → JournalsValue → Flags → List Window → List ℕ
tail_of script j flags windows =
    members_told (not flags.quiet) ((codes "domains", array_of (domain_values script j)) ∷ [])
    ++ members_told true ((codes "groups", array_of (group_values script j)) ∷ [])
    ++ members_told true (journal_part script j flags.journal)
    ++ members_told true ((codes "total", total_value script j) ∷ [])
    ++ members_told true (windows_part flags.windows windows)
    ++ codes "}\n"
