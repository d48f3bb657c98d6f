-- The report of a run with code and data prioritization: a function of a script and its journals.
use Rattle.std.specs.Prelude.{ℕ, Bool, List, ◌++◌, codes, decimal}
use Rattle.std.specs.List.{flat_map, range_with_len}
use Rattle.cache_core.specs.declared.entry.SliceEntry.{SliceEntry}
use Rattle.pair_law.specs.Registers.{register_of}
use Rattle.pair_text.specs.Values.{PairScriptValue}
use Rattle.pair_text.specs.declared.side.Side.{Side}
use Rattle.pair_text.specs.declared.side.Side.TheVariants.{First, Second}
use Rattle.pair_report.specs.MadeGroups.{GroupPath, groups_of}
use Rattle.pair_report.specs.PairCommands.{commands_part}
use Rattle.pair_report.specs.PairCounts.{domain_line, owner_counts, total_line}
use Rattle.pair_law.specs.CdpRuns.{CdpJournalsValue}
use Rattle.pair_windows.specs.CdpWindows.{cdp_windows}
use Rattle.pair_windows.specs.declared.cdp_window.CdpWindow.{CdpWindow}

-- what a side stands for
abbrev pub side_word : Side → List ℕ
side_word First = codes "data"
side_word Second = codes "code"

-- where a window is: `window D group G data ways W from P: `
abbrev pub window_place : CdpWindow → List ℕ
window_place w =
    codes "window " ++ decimal w.domain ++ codes " group " ++ decimal w.gid.0 ++ codes " " ++ side_word w.side ++ codes " ways " ++ decimal w.ways
    ++ codes " from " ++ decimal w.from ++ codes ": "

-- what is counted in it: `accesses A hits H covered C hits V private Q`
abbrev pub window_counts : CdpWindow → List ℕ
window_counts w =
    codes "accesses " ++ decimal w.accesses ++ codes " hits " ++ decimal w.hits ++ codes " covered " ++ decimal w.covered
    ++ codes " hits " ++ decimal w.covered_hits ++ codes " private " ++ decimal w.private

-- `window D group G data ways W from P: accesses A hits H covered C hits V private Q`
unfoldable pub window_line : CdpWindow → List ℕ
window_line w = window_place w ++ window_counts w ++ codes "\n"

-- `group G PATH: data accesses A hits H misses M, code accesses A hits H misses M`
unfoldable pub group_line : List (List SliceEntry) → GroupPath → List ℕ
group_line caches g =
    codes "group " ++ decimal g.gid ++ codes " " ++ g.path ++ codes ": data " ++ owner_counts caches (register_of g.gid First)
    ++ codes ", code " ++ owner_counts caches (register_of g.gid Second) ++ codes "\n"

-- The lines of the commands, where they are asked for, of the windows, of the groups that ever were and of the domains, and the last line.
unfoldable pub cdp_report_of : PairScriptValue → CdpJournalsValue → Bool → List ℕ
cdp_report_of script j quiet =
    commands_part script j.replies quiet
    ++ flat_map window_line (cdp_windows script j)
    ++ flat_map (group_line j.slices) (groups_of script j.replies)
    ++ flat_map (domain_line script.machines.machine j.slices) (range_with_len 0 script.machines.machine.domains)
    ++ total_line j.replies
