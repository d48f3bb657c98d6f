-- What an op weighs against the limit of a script.
use Rattle.std.specs.Prelude.{ℕ, ◌+◌, ◌*◌, List, sum_by}
use Rattle.machine.specs.Slices.{slice_count}
use Rattle.machine.specs.declared.parameters.Parameters.{Parameters}
use Rattle.path_names.specs.declared.path_ref.PathRef.{PathRef}
use Rattle.path_names.specs.declared.path_ref.PathRef.TheVariants.{File}
use Rattle.path_names.specs.declared.files.FileKind.TheVariants.{Schemata, Mode, Occupancy}
use Rattle.script_ops.specs.declared.op.Op.{Op}
use Rattle.script_ops.specs.declared.op.Op.TheVariants as ops

-- a look at each RMID in each slice, one more entry in each slice, and 1
abbrev pub looks_weight : Parameters → ℕ
looks_weight m = (m.rmids + 1) * slice_count m + 1

-- a write of `schemata` makes one entry in each slice, and one of `mode` two
abbrev pub write_weight : Parameters → PathRef → ℕ
write_weight m (File dir Schemata) = slice_count m + 1
write_weight m (File dir Mode) = 2 * slice_count m + 1
write_weight m path = 1

-- a read of `llc_occupancy` looks at counts
abbrev pub read_weight : Parameters → PathRef → ℕ
read_weight m (File dir Occupancy) = looks_weight m
read_weight m path = 1

-- the weight of an op
abbrev pub weight_of : Parameters → Op → ℕ
weight_of m (ops.Mkdir path) = 1
weight_of m (ops.Rmdir path) = looks_weight m
weight_of m (ops.Write path text) = write_weight m path
weight_of m (ops.Read path) = read_weight m path
weight_of m (ops.List path) = 1
weight_of m (ops.Flush domain) = slice_count m + 1
weight_of m ops.Tick = looks_weight m
weight_of m (ops.Access task cpu addr) = 1
weight_of m (ops.Touch cpu path task offset) = 2
weight_of m (ops.DropLine addr) = slice_count m + 1
weight_of m (ops.DropRegion path offset) = slice_count m + 1

-- what ops weigh together
abbrev pub weights_of : Parameters → List Op → ℕ
weights_of m ops = sum_by (weight_of m) ops
