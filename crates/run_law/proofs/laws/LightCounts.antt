-- The counts that the commands of a script can need are within its weight.
use Rattle.std.proofs.Common.{◌+◌, ◌*◌, ◌<◌, ◌≤◌, List, arith}
use Rattle.std.specs.Prelude.{sum_by}
use Rattle.std.proofs.Math.Nat.{mul_comm}
use Rattle.std.proofs.lemmas.List.Sums.{sum_by-le-sum_by}
use Rattle.std.proofs.lemmas.Nat.{mul-le}
use Rattle.machine.specs.Slices.{slice_count}
use Rattle.machine.specs.declared.parameters.Parameters.{Parameters}
use Rattle.path_names.specs.declared.files.FileKind.TheVariants as files
use Rattle.path_names.specs.declared.path_ref.PathRef.{PathRef}
use Rattle.path_names.specs.declared.path_ref.PathRef.TheVariants.{File}
use Rattle.run_law.specs.Quotas.{most_counts, most_read, most_written}
use Rattle.run_law.specs.Rooms.{all_counts}
use Rattle.script_ops.specs.Values.{IsLawful, ScriptValue, threads_of, total_weight}
use Rattle.script_ops.specs.Weights.{looks_weight, read_weight, weight_of, weights_of, write_weight}
use Rattle.script_ops.specs.declared.op.Op.{Op}
use Rattle.script_ops.specs.declared.op.Op.TheVariants as ops

module _ (m : Parameters) (some : 0 < m.slices) where
  -- a domain has some slice
  domains_light : m.domains ≤ slice_count m
  domains_light = omega (arith, mul-le m.domains 1 m.domains m.slices (omega arith) (omega (arith, some)))

  -- each RMID in each domain
  all_light : m.domains * m.rmids ≤ looks_weight m
  all_light = omega (arith, mul-le m.domains m.rmids (slice_count m) (m.rmids + 1) domains_light (omega arith), mul_comm (slice_count m) (m.rmids + 1))

  -- a write
  written_light : (path : PathRef) → most_written m path ≤ write_weight m path
  written_light (File dir files.Mode) = omega (arith, domains_light)
  written_light path = omega arith

  -- a read
  read_light : (path : PathRef) → most_read m path ≤ read_weight m path
  read_light (File dir files.Occupancy) = all_light
  read_light path = omega arith

  -- an op
  op_light : (op : Op) → most_counts m op ≤ weight_of m op
  op_light (ops.Rmdir path) = all_light
  op_light (ops.Write path text) = written_light path
  op_light (ops.Read path) = read_light path
  op_light ops.Tick = all_light
  op_light op = omega arith

  -- the ops of a thread
  ops_light : (ops : List Op) → sum_by (most_counts m) ops ≤ weights_of m ops
  ops_light ops = sum_by-le-sum_by (most_counts m) (weight_of m) ops op_light

-- all counts are at most what the script weighs
pub all_counts-light : (script : ScriptValue) → IsLawful script → all_counts script ≤ total_weight script
all_counts-light script lawful =
    sum_by-le-sum_by (λ ops. sum_by (most_counts script.machine) ops) (weights_of script.machine) (threads_of script) (ops_light script.machine lawful.in_range.some_slice)
