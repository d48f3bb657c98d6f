-- The JSON report: one object, whose keys and those of every object in it are in byte order, in compact text and with a newline.
use Rattle.std.specs.Prelude.{ℕ, Bool, if◌then◌else◌, List, [], ◌∷◌, ◌++◌, codes}
use Rattle.json_report.specs.Domains.{domain_values}
use Rattle.json_report.specs.SliceValues.{journal_part}
use Rattle.json_report.specs.Totals.{total_value}
use Rattle.json_report.specs.Values.{array_of, object_of}
use Rattle.json_report.specs.WindowValues.{windows_part}
use Rattle.json_report.specs.Commands.{command_values}
use Rattle.json_report.specs.Groups.{group_values}
use Rattle.run_law.specs.Journals.{JournalsValue}
use Rattle.report_pieces.specs.declared.flags.Flags.{Flags}
use Rattle.run_counts.specs.declared.window.Window.{Window}
use Rattle.script_ops.specs.Values.{ScriptValue}
use Rattle.serde_json.specs.Data.{Data}
use Rattle.serde_json.specs.Written.{compact_text}
use Rattle.tree_law.specs.State.{opening}

-- the commands, but not of a quiet report
abbrev pub commands_part : ScriptValue → JournalsValue → Bool → List (List ℕ × Data)
commands_part script j quiet =
    if quiet then [] else (codes "commands", array_of (command_values script j (opening script.machine script.tasks) 0 j.tree)) ∷ []

-- the members of the report
abbrev pub report_members : ScriptValue → JournalsValue → Flags → List Window → List (List ℕ × Data)
report_members script j flags windows =
    commands_part script j flags.quiet
    ++ (codes "domains", array_of (domain_values script j))
    ∷ (codes "groups", array_of (group_values script j))
    ∷ (journal_part script j flags.journal
    ++ (codes "total", total_value script j)
    ∷ windows_part flags.windows windows)

-- the report
unfoldable pub json_of : ScriptValue → JournalsValue → Flags → List Window → List ℕ
json_of script j flags windows = compact_text (object_of (report_members script j flags windows)) ++ codes "\n"
