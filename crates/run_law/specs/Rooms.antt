-- The rooms of the journals together, and those for counts.
-- (For functions and proofs: no promise of the program stands on it.)
use Rattle.std.specs.Prelude.{ℕ, ◌+◌, ◌≤◌, sum_by}
use Rattle.lists.specs.Sums.{sum_below}
use Rattle.machine.specs.Slices.{slice_count}
use Rattle.run_law.specs.Quotas.{command_count, most_counts, room_of}
use Rattle.script_ops.specs.Values.{IsLawful, ScriptValue, threads_of, total_weight}
use Rattle.script_ops.specs.declared.limits.TheConstants.{MOST_WEIGHT}

-- the room of the tree's journal and those of all slices
abbrev pub all_rooms : ScriptValue → ℕ
all_rooms script = command_count script + sum_below (slice_count script.machine) (room_of script)

-- the rooms together are at most what the script weighs
abbrev pub RoomsAreWithinWeight : Type 0
RoomsAreWithinWeight = (script : ScriptValue) → all_rooms script ≤ total_weight script

-- and so, for a script that meets the rules, at most the greatest weight
abbrev pub RoomsAreBounded : Type 0
RoomsAreBounded = (script : ScriptValue) → IsLawful script → all_rooms script ≤ MOST_WEIGHT

-- the most counts that all commands can need together
abbrev pub all_counts : ScriptValue → ℕ
all_counts script = sum_by (λ ops. sum_by (most_counts script.machine) ops) (threads_of script)

-- they too are at most what the script weighs, if it meets the rules
abbrev pub CountsAreWithinWeight : Type 0
CountsAreWithinWeight = (script : ScriptValue) → IsLawful script → all_counts script ≤ total_weight script
