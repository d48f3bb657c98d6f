-- The report in two: its first part, for which the commands are taken once more, and the rest.
-- (For functions and proofs: no promise of the program stands on it.)
use Rattle.std.specs.Prelude.{ℕ, List, ◌++◌}
use Rattle.std.specs.List.{flat_map, range_with_len}
use Rattle.report_text.specs.Domains.{domain_line}
use Rattle.report_text.specs.Reporting.{commands_part, group_line}
use Rattle.report_text.specs.SliceLines.{journal_part}
use Rattle.report_text.specs.Totals.{total_line}
use Rattle.report_text.specs.WindowLines.{windows_part}
use Rattle.run_law.specs.Journals.{JournalsValue}
use Rattle.report_pieces.specs.declared.flags.Flags.{Flags}
use Rattle.run_counts.specs.declared.window.Window.{Window}
use Rattle.run_replay.specs.Made.{controls}
use Rattle.script_ops.specs.Values.{ScriptValue}

-- the lines of the commands and of the slices
unfoldable pub head_of : ScriptValue → JournalsValue → Flags → List ℕ
head_of script j flags = commands_part script j flags.quiet ++ journal_part script j flags.journal

-- the lines of the windows, of the groups and of the domains, and the last line
unfoldable pub tail_of : ScriptValue → JournalsValue → Flags → List Window → List ℕ
tail_of script j flags windows =
    windows_part flags.windows windows
    ++ flat_map (group_line script j) (controls script j.tree)
    ++ flat_map (domain_line script j) (range_with_len 0 script.machine.domains)
    ++ total_line script j
