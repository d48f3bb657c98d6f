-- Lines of groups.
use Rattle.std.proofs.Common.{◌≡◌, ℕ, List, ap}
use Rattle.machine.specs.Slices.{slice_count}
use Rattle.path_names.specs.PathTexts.{path_text}
use Rattle.path_names.specs.declared.dirs.DirRef.TheVariants.{Ctrl}
use Rattle.path_names.specs.declared.path_ref.PathRef.TheVariants.{Dir}
use Rattle.report_text.specs.Reporting.{group_line}
use Rattle.cache_core.specs.Whats.{is_access_of}
use Rattle.run_counts.specs.Tallies.{counted_in}
use Rattle.run_counts.specs.declared.counts.Counts.{Counts}
use Rattle.run_law.specs.Journals.{JournalsValue}
use Rattle.run_replay.specs.Made.{control_of}
use Rattle.run_replay.specs.declared.made_group.MadeGroup.{MadeGroup}
use Rattle.script_ops.specs.Values.{ScriptValue}
use Rattle.report_text.specs.Groups.{group_told}

-- the line of a group by its counts
pub group_told-is : (script : ScriptValue) (j : JournalsValue) (gid : ℕ) (path : List ℕ) (counts : Counts) → counts ≡ counted_in (is_access_of gid) j (slice_count script.machine)
    → group_told gid path counts ≡ group_line script j (record { gid = gid; path = path })
group_told-is script j gid path counts is = ap (group_told gid path) is

-- the line of a group that was made
pub group_told-made : (script : ScriptValue) (j : JournalsValue) (made : MadeGroup) (counts : Counts) → counts ≡ counted_in (is_access_of made.gid) j (slice_count script.machine)
    → group_told made.gid (path_text script.names (Dir (Ctrl made.name))) counts ≡ group_line script j (control_of script.names made)
group_told-made script j made counts is = group_told-is script j made.gid (path_text script.names (Dir (Ctrl made.name))) counts is
