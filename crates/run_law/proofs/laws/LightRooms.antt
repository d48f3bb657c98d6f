-- The rooms of the journals together are within the weight of a script.
use Rattle.std.proofs.Common.{◌≡◌, ℕ, zero, suc, ◌+◌, ◌*◌, ◌<◌, ◌≤◌, false, inl, inr, List, [], ◌∷◌, refl, ◌∙◌, arith}
use Rattle.std.specs.Prelude.{◌==◌, sum_by}
use Rattle.std.proofs.Math.Nat.{mul_comm}
use Rattle.std.proofs.lemmas.Bool.{cases_Bool, eqb-false, eqb-true}
use Rattle.std.proofs.lemmas.List.Sums.{sum_by-cons}
use Rattle.lists.proofs.Sums.{one_if-le, sum_below-add, sum_below-le, sum_below-same, sum_below-zero}
use Rattle.lists.specs.Sums.{one_if, sum_below}
use Rattle.machine.specs.Maps.{domain_of, line_of}
use Rattle.machine.specs.Slices.{slice_count, slice_of_line}
use Rattle.machine.specs.declared.parameters.Parameters.{Parameters}
use Rattle.path_names.specs.declared.files.FileKind.TheVariants as files
use Rattle.path_names.specs.declared.path_ref.PathRef.{PathRef}
use Rattle.path_names.specs.declared.path_ref.PathRef.TheVariants.{File}
use Rattle.run_law.specs.Ops.{is_command}
use Rattle.run_law.specs.Quotas.{command_count, commands_of, line_quota, quota, quotas_of, read_quota, room_of, write_quota}
use Rattle.run_law.specs.Rooms.{all_rooms}
use Rattle.script_ops.specs.Values.{IsLawful, ScriptValue, threads_of, total_weight}
use Rattle.script_ops.specs.Weights.{read_weight, weight_of, weights_of, write_weight}
use Rattle.script_ops.specs.declared.limits.TheConstants.{MOST_WEIGHT}
use Rattle.script_ops.specs.declared.op.Op.{Op}
use Rattle.script_ops.specs.declared.op.Op.TheVariants as ops

-- ---- sums

-- a number is one of those below another once at most
sum_below-once : (n a : ℕ) → sum_below n (λ k. one_if (k == a)) ≤ 1
sum_below-once zero a = omega arith
sum_below-once (suc n) a = elim (cases_Bool (n == a)) [
  | inl last ↦
      let none : sum_below n (λ k. one_if (k == a)) ≡ 0 = sum_below-zero n (λ k. one_if (k == a)) (λ k less. apart k (omega (arith, less, eqb-true n a last))) in
      omega (arith, none, one_if-le (n == a))
  | inr before ↦ rw before (omega (arith, sum_below-once n a))
]
  where
    apart : (k : ℕ) → k < a → one_if (k == a) ≡ 0
    apart k less = elim (cases_Bool (k == a)) [ inl same ↦ absurd (omega (arith, less, eqb-true k a same)) | inr differs ↦ rw differs refl ]

-- where for each element a number and a sum over the numbers below n are within a third, they are together for a list
sum_by-within : {X : Type 0} (n : ℕ) (f : X → ℕ) (g : ℕ → X → ℕ) (h : X → ℕ) → ((x : X) → f x + sum_below n (λ i. g i x) ≤ h x) → (xs : List X) → sum_by f xs + sum_below n (λ i. sum_by (g i) xs) ≤ sum_by h xs
sum_by-within n f g h each [] = omega (arith, sum_below-zero n (λ i. sum_by (g i) []) (λ i below. refl))
sum_by-within n f g h each (x ∷ xs) =
    let split : sum_below n (λ i. sum_by (g i) (x ∷ xs)) ≡ sum_below n (λ i. g i x) + sum_below n (λ i. sum_by (g i) xs) =
    sum_below-same n (λ i. sum_by (g i) (x ∷ xs)) (λ i. g i x + sum_by (g i) xs) (λ i below. sum_by-cons (g i) x xs) ∙ sum_below-add n (λ i. g i x) (λ i. sum_by (g i) xs) in
    omega (arith, split, each x, sum_by-within n f g h each xs, sum_by-cons f x xs, sum_by-cons h x xs)

-- ---- the entries of an op in all slices

module _ (m : Parameters) where
  -- how many slices there are
  abbrev n : ℕ
  n = slice_count m

  -- one entry in one slice
  line_light : (cpu byte : ℕ) → sum_below n (λ i. line_quota m i cpu byte) ≤ 1
  line_light cpu byte = sum_below-once n (slice_of_line m (domain_of m cpu) (line_of byte))

  -- so many in each
  each_light : (quota : ℕ) → sum_below n (λ i. quota) ≤ quota * n
  each_light quota = omega (arith, sum_below-le n quota (λ i. quota) (λ i. omega arith), mul_comm n quota)

  -- a write
  write_light : (path : PathRef) → 1 + sum_below n (λ i. write_quota path) ≤ write_weight m path
  write_light (File dir files.Schemata) = omega (arith, each_light 1)
  write_light (File dir files.Mode) = omega (arith, each_light 2)
  write_light path = omega (arith, each_light 0)

  -- a read
  read_light : (path : PathRef) → 1 + sum_below n (λ i. read_quota m path) ≤ read_weight m path
  read_light (File dir files.Occupancy) = omega (arith, each_light m.rmids)
  read_light path = omega (arith, each_light 0)

  -- an op with its command
  op_light : (op : Op) → one_if (is_command op) + sum_below n (λ i. quota m i op) ≤ weight_of m op
  op_light (ops.Access task cpu addr) = omega (arith, line_light cpu addr)
  op_light (ops.Touch cpu path task offset) = omega (arith, line_light cpu offset)
  op_light (ops.Rmdir path) = omega (arith, each_light (m.rmids + 1))
  op_light (ops.Write path text) = write_light path
  op_light (ops.Read path) = read_light path
  op_light (ops.Flush domain) = omega (arith, each_light 1)
  op_light ops.Tick = omega (arith, each_light m.rmids)
  op_light (ops.DropLine addr) = omega (arith, each_light 1)
  op_light (ops.DropRegion path offset) = omega (arith, each_light 1)
  op_light op = omega (arith, each_light 0)

  -- the ops of a thread
  ops_light : (ops : List Op) → commands_of ops + sum_below n (λ i. quotas_of m i ops) ≤ weights_of m ops
  ops_light ops = sum_by-within n (λ op. one_if (is_command op)) (quota m) (weight_of m) op_light ops

-- ---- all rooms

-- they are at most what the script weighs
pub all_rooms-light : (script : ScriptValue) → all_rooms script ≤ total_weight script
unfolding command_count room_of
all_rooms-light script = sum_by-within (slice_count script.machine) commands_of (quotas_of script.machine) (weights_of script.machine) (ops_light script.machine) (threads_of script)

-- so is that of one slice
pub room-light : (script : ScriptValue) (i : ℕ) → i < slice_count script.machine → IsLawful script → room_of script i ≤ MOST_WEIGHT
room-light script i there lawful = omega (arith, all_rooms-light script, lawful.light, sum_below-one (slice_count script.machine) i there)
  where
    sum_below-one : (n k : ℕ) → k < n → room_of script k ≤ sum_below n (room_of script)
    sum_below-one zero k below = absurd (omega arith)
    sum_below-one (suc n) k below = elim (cases_Bool (k == n)) [
      | inl last ↦ rw (eqb-true k n last) (omega arith)
      | inr before ↦ omega (arith, sum_below-one n k (less before))
    ]
      where
        less : (k == n) ≡ false → k < n
        less differs = omega (arith, below, eqb-false k n differs)

-- and that of the tree
pub commands-light : (script : ScriptValue) → IsLawful script → command_count script ≤ MOST_WEIGHT
commands-light script lawful = omega (arith, all_rooms-light script, lawful.light)
