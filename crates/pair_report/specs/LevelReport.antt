-- The report of a run with two levels: a function of a script and its journals.
use Rattle.std.specs.Prelude.{ℕ, Bool, List, ◌++◌, codes, decimal}
use Rattle.std.specs.List.{flat_map, range_with_len}
use Rattle.cache_core.specs.declared.entry.SliceEntry.{SliceEntry}
use Rattle.machine.specs.declared.parameters.Parameters.{Parameters}
use Rattle.pair_text.specs.Values.{PairScriptValue, side_machine}
use Rattle.pair_text.specs.declared.side.Side.{Side}
use Rattle.pair_text.specs.declared.side.Side.TheVariants.{First, Second}
use Rattle.pair_report.specs.MadeGroups.{GroupPath, groups_of}
use Rattle.pair_report.specs.PairCommands.{commands_part}
use Rattle.pair_report.specs.PairCounts.{domain_line, owner_counts, total_line}
use Rattle.pair_law.specs.LevelRuns.{LevelJournalsValue, level}
use Rattle.pair_windows.specs.JointWindows.{joint_windows}
use Rattle.pair_windows.specs.declared.joint_window.JointWindow.{JointWindow}

-- the level that a side is
abbrev pub level_word : Side → List ℕ
level_word First = codes "l2"
level_word Second = codes "l3"

-- where a window is: `window D group G from K: `
abbrev pub window_place : JointWindow → List ℕ
window_place w = codes "window " ++ decimal w.domain ++ codes " group " ++ decimal w.gid.0 ++ codes " from " ++ decimal w.from ++ codes ": "

-- what its covered uses did in the L2: `covered A, l2 hits H private P`
abbrev pub l2_counts : JointWindow → List ℕ
l2_counts w = codes "covered " ++ decimal w.covered ++ codes ", l2 hits " ++ decimal w.l2_hits ++ codes " private " ++ decimal w.l2_private

-- and in the L3: `, l3 accesses B hits I private Q`
abbrev pub l3_counts : JointWindow → List ℕ
l3_counts w = codes ", l3 accesses " ++ decimal w.l3_accesses ++ codes " hits " ++ decimal w.l3_hits ++ codes " private " ++ decimal w.l3_private

-- `window D group G from K: covered A, l2 hits H private P, l3 accesses B hits I private Q`
unfoldable pub window_line : JointWindow → List ℕ
window_line w = window_place w ++ l2_counts w ++ l3_counts w ++ codes "\n"

-- `group G PATH: l2 accesses A hits H misses M, l3 accesses A hits H misses M`
unfoldable pub group_line : List (List SliceEntry) → List (List SliceEntry) → GroupPath → List ℕ
group_line l2 l3 g =
    codes "group " ++ decimal g.gid ++ codes " " ++ g.path ++ codes ": l2 " ++ owner_counts l2 g.gid
    ++ codes ", l3 " ++ owner_counts l3 g.gid ++ codes "\n"

-- `l2 domain D: valid V of C`
unfoldable pub level_domain_line : Side → Parameters → List (List SliceEntry) → ℕ → List ℕ
level_domain_line side m caches domain = level_word side ++ codes " " ++ domain_line m caches domain

-- the lines of the domains of a level
abbrev pub domain_lines : PairScriptValue → LevelJournalsValue → Side → List ℕ
domain_lines script j side =
    flat_map (level_domain_line side (side_machine script.machines side) (level j side)) (range_with_len 0 (side_machine script.machines side).domains)

-- The lines of the commands, where they are asked for, of the windows, of the groups that ever were and of the domains of the L2 and of
-- the L3, and the last line.
unfoldable pub level_report_of : PairScriptValue → LevelJournalsValue → Bool → List ℕ
level_report_of script j quiet =
    commands_part script j.replies quiet
    ++ flat_map window_line (joint_windows script j)
    ++ flat_map (group_line j.l2 j.l3) (groups_of script j.replies)
    ++ domain_lines script j First
    ++ domain_lines script j Second
    ++ total_line j.replies
