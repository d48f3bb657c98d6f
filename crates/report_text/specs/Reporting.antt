-- The report: a function of a script and its journals.
use Rattle.std.specs.Prelude.{ℕ, Bool, if◌then◌else◌, List, [], ◌++◌, codes, decimal}
use Rattle.std.specs.List.{flat_map, range_with_len}
use Rattle.report_text.specs.Commands.{command_lines}
use Rattle.cache_core.specs.Whats.{is_access_of}
use Rattle.run_law.specs.Journals.{JournalsValue}
use Rattle.report_pieces.specs.declared.flags.Flags.{Flags}
use Rattle.run_counts.specs.declared.window.Window.{Window}
use Rattle.run_replay.specs.Made.{Control, controls}
use Rattle.script_ops.specs.Values.{ScriptValue}
use Rattle.report_text.specs.Counts.{counts_text}
use Rattle.report_text.specs.Domains.{domain_line}
use Rattle.report_text.specs.SliceLines.{journal_part}
use Rattle.report_text.specs.Totals.{total_line}
use Rattle.report_text.specs.WindowLines.{windows_part}
use Rattle.tree_law.specs.State.{opening}

-- `group G PATH: accesses A hits H misses M`
abbrev pub group_line : ScriptValue → JournalsValue → Control → List ℕ
group_line script j g = codes "group " ++ decimal g.gid ++ codes " " ++ g.path ++ codes ": " ++ counts_text script j (is_access_of g.gid) ++ codes "\n"

-- the lines of the commands, but not of a quiet report
abbrev pub commands_part : ScriptValue → JournalsValue → Bool → List ℕ
commands_part script j quiet = if quiet then [] else command_lines script j (opening script.machine script.tasks) 0 j.tree

-- The lines of the commands, of the slices and of the windows, as the flags ask for them; those of the groups and of the
-- domains, and the last line.
unfoldable pub report_of : ScriptValue → JournalsValue → Flags → List Window → List ℕ
report_of script j flags windows =
    commands_part script j flags.quiet
    ++ journal_part script j flags.journal
    ++ windows_part flags.windows windows
    ++ flat_map (group_line script j) (controls script j.tree)
    ++ flat_map (domain_line script j) (range_with_len 0 script.machine.domains)
    ++ total_line script j
