-- How much ops can make: the entries of each in a slice, the counts that it can need, and the rooms of the journals.
-- (For functions and proofs: no promise of the program stands on it.)
use Rattle.std.specs.Prelude.{◌≡◌, ℕ, ◌+◌, ◌*◌, ◌<◌, ◌≤◌, ◌==◌, List, length, slice_index, slice_index_or, sum_by}
use Rattle.lists.specs.Sums.{one_if}
use Rattle.machine.specs.Maps.{domain_of, line_of}
use Rattle.machine.specs.Slices.{slice_count, slice_of_line}
use Rattle.machine.specs.declared.parameters.Parameters.{Parameters}
use Rattle.path_names.specs.declared.files.FileKind.TheVariants.{Schemata, Mode, Occupancy}
use Rattle.path_names.specs.declared.path_ref.PathRef.{PathRef}
use Rattle.path_names.specs.declared.path_ref.PathRef.TheVariants.{File}
use Rattle.run_law.specs.Ops.{is_command}
use Rattle.script_ops.specs.Values.{ScriptValue, ops_of, threads_of}
use Rattle.script_ops.specs.declared.limits.TheConstants.{MOST_WEIGHT}
use Rattle.script_ops.specs.declared.op.Op.{Op}
use Rattle.script_ops.specs.declared.op.Op.TheVariants as ops

-- ---- entries

-- a write of `mode` looks once and raises once, and one of `schemata` raises or locks once
abbrev pub write_quota : PathRef → ℕ
write_quota (File dir Mode) = 2
write_quota (File dir Schemata) = 1
write_quota path = 0

-- a read of `llc_occupancy` looks at RMIDs
abbrev pub read_quota : Parameters → PathRef → ℕ
read_quota m (File dir Occupancy) = m.rmids
read_quota m path = 0

-- the most entries that an op makes in each slice alike; an access and a touch go to one slice, and count 0 here
abbrev pub common_quota : Parameters → Op → ℕ
common_quota m (ops.Rmdir path) = m.rmids + 1
common_quota m (ops.Write path text) = write_quota path
common_quota m (ops.Read path) = read_quota m path
common_quota m (ops.Flush domain) = 1
common_quota m ops.Tick = m.rmids
common_quota m (ops.DropLine addr) = 1
common_quota m (ops.DropRegion path offset) = 1
common_quota m op = 0

-- one entry in the slice that has the line of this byte in the domain of a CPU, and none in another slice
abbrev pub line_quota : Parameters → ℕ → ℕ → ℕ → ℕ
line_quota m i cpu byte = one_if (i == slice_of_line m (domain_of m cpu) (line_of byte))

-- The greatest number of entries that an op can make in slice i. A touch goes to the slice of the line at its offset, for the
-- first line of a region is in set 0.
abbrev pub quota : Parameters → ℕ → Op → ℕ
quota m i (ops.Access task cpu addr) = line_quota m i cpu addr
quota m i (ops.Touch cpu path task offset) = line_quota m i cpu offset
quota m i op = common_quota m op

-- the same of an access, and 0 of a command
abbrev pub access_quota : Parameters → ℕ → Op → ℕ
access_quota m i (ops.Access task cpu addr) = line_quota m i cpu addr
access_quota m i op = 0

-- the most entries that these ops together can make in slice i
abbrev pub quotas_of : Parameters → ℕ → List Op → ℕ
quotas_of m i ops = sum_by (quota m i) ops

-- the room of slice i: the quotas of the ops of all threads
unfoldable pub room_of : ScriptValue → ℕ → ℕ
room_of script i = sum_by (quotas_of script.machine i) (threads_of script)

-- these are the rooms of all slices
pub record AreRooms (script : ScriptValue) (rooms : List ℕ) : Type 0 where
  pub count : length rooms ≡ slice_count script.machine
  pub each : (i d : ℕ) → i < slice_count script.machine → slice_index_or rooms i d ≡ room_of script i

-- no room is greater than this
abbrev pub AreWithin : ℕ → List ℕ → Type 0
AreWithin most rooms = (i : ℕ) → i < length rooms → slice_index rooms i ≤ most

-- each room has grown by the number that `more` gives its slice, which is at most this
pub record HaveGrown (more : ℕ → ℕ) (most : ℕ) (before after : List ℕ) : Type 0 where
  pub count : length after ≡ length before
  pub each : (i : ℕ) → i < length before → slice_index after i ≡ slice_index before i + more i
  pub few : (i : ℕ) → i < length before → more i ≤ most

-- ---- counts

-- a write of `mode` needs one RMID in each domain
abbrev pub most_written : Parameters → PathRef → ℕ
most_written m (File dir Mode) = m.domains
most_written m path = 0

-- a read of `llc_occupancy` needs RMIDs in one domain; its bound is that of all domains
abbrev pub most_read : Parameters → PathRef → ℕ
most_read m (File dir Occupancy) = m.domains * m.rmids
most_read m path = 0

-- the greatest number of counts that a command can need: each RMID in each domain, and for a write of `mode` one RMID
abbrev pub most_counts : Parameters → Op → ℕ
most_counts m (ops.Rmdir path) = m.domains * m.rmids
most_counts m (ops.Write path text) = most_written m path
most_counts m (ops.Read path) = most_read m path
most_counts m ops.Tick = m.domains * m.rmids
most_counts m op = 0

-- ---- commands

-- how many of these ops are commands
abbrev pub commands_of : List Op → ℕ
commands_of ops = sum_by (λ op. one_if (is_command op)) ops

-- how many commands all threads have
unfoldable pub command_count : ScriptValue → ℕ
command_count script = sum_by commands_of (threads_of script)

-- the numbers of commands of the first n threads
pub record AreCounted (script : ScriptValue) (n : ℕ) (counts : List ℕ) : Type 0 where
  pub count : length counts ≡ n
  pub each : (t d : ℕ) → t < n → slice_index_or counts t d ≡ commands_of (ops_of script t)
  pub few : (t d : ℕ) → t < n → slice_index_or counts t d ≤ MOST_WEIGHT
