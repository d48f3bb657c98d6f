-- Ops that are accesses alone: they make one entry each where there is one slice.
use Rattle.std.proofs.Common.{◌≡◌, ℕ, ◌+◌, ◌<◌, Bool, true, false, List, [], ◌∷◌, length, refl, ap, arith}
use Rattle.std.specs.Prelude.{All, sum_by}
use Rattle.std.proofs.lemmas.Bool.{eq-eqb}
use Rattle.std.proofs.lemmas.List.Elements.{All-head, All-tail}
use Rattle.std.proofs.lemmas.List.Sums.{sum_by-cons}
use Rattle.lists.specs.Sums.{one_if}
use Rattle.machine.specs.Maps.{domain_of, line_of, set_of, slice_of}
use Rattle.machine.specs.Ranges.{InRange}
use Rattle.machine.specs.Slices.{slice_count, slice_of_line}
use Rattle.machine.specs.declared.parameters.Parameters.{Parameters}
use Rattle.machine.proofs.laws.Domains.{domain_of-lt}
use Rattle.machine.proofs.laws.Slices.{slice_number-lt}
use Rattle.run_law.specs.Ops.{is_command}
use Rattle.run_law.specs.Quotas.{access_quota, commands_of, quota}
use Rattle.script_ops.specs.Fits.{Fits}
use Rattle.script_ops.specs.declared.op.Op.{Op}
use Rattle.script_ops.specs.declared.op.Op.TheVariants as ops

-- where one of two is none, both are
pub first_none : (b : Bool) (n : ℕ) → one_if b + n ≡ 0 → (b ≡ false) × (n ≡ 0)
first_none true n h = absurd (omega (arith, h))
first_none false n h = (refl, omega (arith, h))

-- where there is one slice, an access makes one entry in it
quota-access : (m : Parameters) (tasks : List ℕ) (i : ℕ) (op : Op) → InRange m → slice_count m ≡ 1 → i < 1 → Fits m tasks op → is_command op ≡ false → quota m i op ≡ 1
quota-access m tasks i (ops.Access task cpu addr) range one first fits is =
    let line = line_of addr in
    let domain : domain_of m cpu < m.domains = domain_of-lt m cpu range fits.1 in
    let some : 0 < m.slices = range.some_slice in
    let slice : slice_of m (set_of m line) < m.slices = omega (arith, some) in
    let lt : slice_of_line m (domain_of m cpu) line < slice_count m = slice_number-lt m (domain_of m cpu) (slice_of m (set_of m line)) domain slice in
    ap one_if (eq-eqb i (slice_of_line m (domain_of m cpu) line) (omega (arith, first, lt, one)))
quota-access m tasks i op range one first fits is = absurd cc

-- and of a command none is added with the accesses
access_quota-either : (m : Parameters) (tasks : List ℕ) (i : ℕ) (op : Op) → InRange m → slice_count m ≡ 1 → i < 1 → Fits m tasks op → access_quota m i op + one_if (is_command op) ≡ 1
access_quota-either m tasks i (ops.Access task cpu addr) range one first fits = omega (arith, quota-access m tasks i (ops.Access task cpu addr) range one first fits refl)
access_quota-either m tasks i op range one first fits = refl

-- so that all accesses make as many entries as they are
pub access_quotas-one : (m : Parameters) (tasks : List ℕ) (i : ℕ) (ops : List Op) → InRange m → slice_count m ≡ 1 → i < 1 → All (Fits m tasks) ops → sum_by (access_quota m i) ops + commands_of ops ≡ length ops
access_quotas-one m tasks i [] range one first fit = refl
access_quotas-one m tasks i (op ∷ ops) range one first fit =
    omega (arith, sum_by-cons (access_quota m i) op ops, sum_by-cons (λ o. one_if (is_command o)) op ops, access_quota-either m tasks i op range one first (All-head (Fits m tasks) op ops fit), access_quotas-one m tasks i ops range one first (All-tail (Fits m tasks) op ops fit))
