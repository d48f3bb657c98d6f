-- The values of control groups.
use Rattle.std.specs.Prelude.{List, map}
use Rattle.json_report.specs.GroupValues.{group_of_counts}
use Rattle.machine.specs.Slices.{slice_count}
use Rattle.cache_core.specs.Whats.{is_access_of}
use Rattle.run_replay.specs.Made.{Control, controls}
use Rattle.run_counts.specs.Tallies.{counted_in}
use Rattle.run_law.specs.Journals.{JournalsValue}
use Rattle.script_ops.specs.Values.{ScriptValue}
use Rattle.serde_json.specs.Data.{Data}

-- a control group, with the accesses in all slices that it owned
abbrev pub group_value : ScriptValue → JournalsValue → Control → Data
group_value script j g = group_of_counts g.gid g.path (counted_in (is_access_of g.gid) j (slice_count script.machine))

-- each control group that ever was, in order of creation
abbrev pub group_values : ScriptValue → JournalsValue → List Data
group_values script j = map (group_value script j) (controls script j.tree)
