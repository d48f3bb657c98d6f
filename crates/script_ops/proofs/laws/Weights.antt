-- What ops weigh.
use Rattle.std.proofs.Common.{ℕ, zero, suc, ◌<◌, ◌≤◌, List, [], ◌∷◌, length, get_or, sum_by, arith}
use Rattle.std.proofs.lemmas.List.Sums.{sum_by-cons}
use Rattle.machine.specs.declared.parameters.Parameters.{Parameters}
use Rattle.path_names.specs.declared.files.FileKind.TheVariants as files
use Rattle.path_names.specs.declared.path_ref.PathRef.{PathRef}
use Rattle.path_names.specs.declared.path_ref.PathRef.TheVariants.{Dir, File, Free, Nowhere}
use Rattle.script_ops.specs.declared.op.Op.{Op}
use Rattle.script_ops.specs.declared.op.Op.TheVariants as ops
use Rattle.script_ops.specs.Weights.{write_weight, read_weight, weight_of, weights_of}

-- a write and a read of a path weigh something
pub path_weights-some : (m : Parameters) (path : PathRef) → (0 < write_weight m path) × (0 < read_weight m path)
path_weights-some m (Dir dir) = (omega arith, omega arith)
path_weights-some m (File dir files.Cpus) = (omega arith, omega arith)
path_weights-some m (File dir files.CpusList) = (omega arith, omega arith)
path_weights-some m (File dir files.Tasks) = (omega arith, omega arith)
path_weights-some m (File dir files.Schemata) = (omega arith, omega arith)
path_weights-some m (File dir files.Mode) = (omega arith, omega arith)
path_weights-some m (File dir files.Size) = (omega arith, omega arith)
path_weights-some m (File dir files.Occupancy) = (omega arith, omega arith)
path_weights-some m (File dir files.LastStatus) = (omega arith, omega arith)
path_weights-some m (File dir files.NumClosids) = (omega arith, omega arith)
path_weights-some m (File dir files.CbmMask) = (omega arith, omega arith)
path_weights-some m (File dir files.MinCbmBits) = (omega arith, omega arith)
path_weights-some m (File dir files.ShareableBits) = (omega arith, omega arith)
path_weights-some m (File dir files.BitUsage) = (omega arith, omega arith)
path_weights-some m (File dir files.SparseMasks) = (omega arith, omega arith)
path_weights-some m (File dir files.NumRmids) = (omega arith, omega arith)
path_weights-some m (File dir files.MonFeatures) = (omega arith, omega arith)
path_weights-some m (File dir files.MaxThreshold) = (omega arith, omega arith)
path_weights-some m (Free dir name) = (omega arith, omega arith)
path_weights-some m (Nowhere name) = (omega arith, omega arith)

-- an op weighs something
pub weight_of-some : (m : Parameters) (op : Op) → 0 < weight_of m op
weight_of-some m (ops.Mkdir path) = omega arith
weight_of-some m (ops.Rmdir path) = omega arith
weight_of-some m (ops.Write path text) = (path_weights-some m path).0
weight_of-some m (ops.Read path) = (path_weights-some m path).1
weight_of-some m (ops.List path) = omega arith
weight_of-some m (ops.Flush domain) = omega arith
weight_of-some m ops.Tick = omega arith
weight_of-some m (ops.Access task cpu addr) = omega arith
weight_of-some m (ops.Touch cpu path task offset) = omega arith
weight_of-some m (ops.DropLine addr) = omega arith
weight_of-some m (ops.DropRegion path offset) = omega arith

-- ops weigh as many as they are, or more
pub length-weights_of : (m : Parameters) (ops : List Op) → length ops ≤ weights_of m ops
length-weights_of m [] = omega arith
length-weights_of m (op ∷ ops) = omega (arith, sum_by-cons (weight_of m) op ops, weight_of-some m op, length-weights_of m ops)

-- the ops of one thread are as few as all threads weigh
pub length-get_or : (m : Parameters) (most : ℕ) (threads : List (List Op)) (thread : ℕ) → sum_by (weights_of m) threads ≤ most → length (get_or threads thread []) ≤ most
length-get_or m most [] thread light = omega arith
length-get_or m most (t ∷ ts) zero light = omega (arith, length-weights_of m t, sum_by-cons (weights_of m) t ts, light)
length-get_or m most (t ∷ ts) (suc thread) light = length-get_or m most ts thread (omega (arith, sum_by-cons (weights_of m) t ts, light))
