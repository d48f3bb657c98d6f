-- What the accesses among ops add to the rooms, and what the commands add.
use Rattle.std.proofs.Common.{◌≡◌, ◌≢◌, ℕ, ◌+◌, ◌*◌, ◌^◌, ◌<◌, ◌≤◌, cond, List, [], ◌∷◌, length, get_or, Option, Some, refl, sym, ap, ◌∙◌, subst, arith}
use Rattle.std.specs.Prelude.{All, not, slice_get, sum_by, unwrap_or}
use Rattle.std.proofs.lemmas.List.Sums.{sum_by-cons}
use Rattle.std.proofs.lemmas.Option.{slice_get-get_or}
use Rattle.lists.proofs.Sums.{one_if-le}
use Rattle.lists.specs.Sums.{one_if}
use Rattle.machine.specs.declared.parameters.Parameters.{Parameters}
use Rattle.run_law.specs.Ops.{is_command}
use Rattle.run_law.specs.Quotas.{AreWithin, HaveGrown, access_quota, commands_of, line_quota, quota, quotas_of}
use Rattle.script_ops.specs.Fits.{Fits}
use Rattle.script_ops.specs.Slots.{commands_in, is_access}
use Rattle.script_ops.specs.declared.limits.TheConstants.{MOST_WEIGHT}
use Rattle.script_ops.specs.declared.op.Op.{Op}
use Rattle.script_ops.specs.declared.op.Op.TheVariants as ops

-- ---- how many commands there are

-- one op more
length-either : (op : Op) (all : List Op) → length (cond (not (is_access op)) (op ∷ all) all) ≡ one_if (is_command op) + length all
length-either (ops.Access task cpu addr) all = omega arith
length-either op all = omega arith

pub length-commands_in : (all : List Op) → length (commands_in all) ≡ commands_of all
length-commands_in [] = refl
length-commands_in (op ∷ all) = length-either op (commands_in all) ∙ ap (λ n. one_if (is_command op) + n) (length-commands_in all) ∙ sym (sum_by-cons (λ o. one_if (is_command o)) op all)

-- at most as many as ops
pub commands_of-le : (all : List Op) → commands_of all ≤ length all
commands_of-le [] = omega arith
commands_of-le (op ∷ all) = omega (arith, sum_by-cons (λ o. one_if (is_command o)) op all, one_if-le (is_command op), commands_of-le all)

-- ---- quotas

-- one op more
quota-either : (m : Parameters) (i : ℕ) (op : Op) (all : List Op) → quotas_of m i (cond (not (is_access op)) (op ∷ all) all) + access_quota m i op ≡ quota m i op + quotas_of m i all
quota-either m i (ops.Access task cpu addr) all = omega arith
quota-either m i op all = omega (arith, sum_by-cons (quota m i) op all)

-- all entries are of accesses or of commands
pub quotas_of-both : (m : Parameters) (i : ℕ) (all : List Op) → quotas_of m i all ≡ sum_by (access_quota m i) all + quotas_of m i (commands_in all)
quotas_of-both m i [] = refl
quotas_of-both m i (op ∷ all) =
    omega (arith, sum_by-cons (quota m i) op all, sum_by-cons (access_quota m i) op all, quota-either m i op (commands_in all), quotas_of-both m i all)

-- an access makes one at most
access_quota-le : (m : Parameters) (i : ℕ) (op : Op) → access_quota m i op ≤ 1
access_quota-le m i (ops.Access task cpu addr) = one_if-le _
access_quota-le m i op = omega arith

pub access_quotas-le : (m : Parameters) (i : ℕ) (all : List Op) → sum_by (access_quota m i) all ≤ length all
access_quotas-le m i [] = omega arith
access_quotas-le m i (op ∷ all) = omega (arith, sum_by-cons (access_quota m i) op all, access_quota-le m i op, access_quotas-le m i all)

-- ---- growth by one op

-- by an access
pub HaveGrown-access : (m : Parameters) (all : List Op) (k task cpu addr : ℕ) (d : Op) (before after : List ℕ) → k < length all → slice_get all k ≡ Some (ops.Access task cpu addr) → HaveGrown (λ s. line_quota m s cpu addr) 257 before after
    → HaveGrown (λ s. access_quota m s (get_or all k d)) 257 before after
HaveGrown-access m all k task cpu addr d before after within is grown =
    let op : ops.Access task cpu addr ≡ get_or all k d = ap (λ (o : Option Op). unwrap_or o d) (sym is ∙ slice_get-get_or all k d within) in
    subst (λ (o : Op). HaveGrown (λ s. access_quota m s o) 257 before after) op grown

-- its CPU is one of the machine's
pub access_cpu-lt : (m : Parameters) (tasks : List ℕ) (all : List Op) (k task cpu addr : ℕ) → All (Fits m tasks) all → k < length all → slice_get all k ≡ Some (ops.Access task cpu addr) → cpu < m.cpus
access_cpu-lt m tasks all k task cpu addr fit within is =
    let d : Op = ops.Access task cpu addr in
    let op : get_or all k d ≡ d = ap (λ (o : Option Op). unwrap_or o d) (sym (slice_get-get_or all k d within) ∙ is) in
    (subst (Fits m tasks) op (fit k d within)).1

-- of a command nothing is added
access_quota-none : (m : Parameters) (i : ℕ) (op : Op) → ((task cpu addr : ℕ) → op ≢ ops.Access task cpu addr) → access_quota m i op ≡ 0
access_quota-none m i (ops.Access task cpu addr) other = absurd (other task cpu addr refl)
access_quota-none m i op other = refl

pub HaveGrown-command : (m : Parameters) (all : List Op) (k : ℕ) (d : Op) (rooms : List ℕ) → k < length all → ((task cpu addr : ℕ) → slice_get all k ≢ Some (ops.Access task cpu addr)) → HaveGrown (λ s. access_quota m s (get_or all k d)) 257 rooms rooms
HaveGrown-command m all k d rooms within other = record {
  count = refl;
  each = λ i there. omega (arith, none i);
  few = λ i there. omega (arith, none i);
}
  where
    none : (i : ℕ) → access_quota m i (get_or all k d) ≡ 0
    none i = access_quota-none m i (get_or all k d) (λ task cpu addr is. other task cpu addr (slice_get-get_or all k d within ∙ ap (λ (o : Op). Some o) is))

-- ---- growth by all

-- rooms that have grown by the accesses
pub AreWithin-grown : (more : ℕ → ℕ) (before after : List ℕ) → AreWithin (2 ^ 62) before → HaveGrown more (2 ^ 30) before after → AreWithin (2 ^ 62 + 2 ^ 30) after
AreWithin-grown more before after small grown i within =
    let there : i < length before = omega (arith, within, grown.count) in
    omega (arith, small i there, grown.each i there, grown.few i there)

-- and then by the commands
pub HaveGrown-both : (m : Parameters) (all : List Op) (before between after : List ℕ) → length all ≤ MOST_WEIGHT → HaveGrown (λ i. sum_by (access_quota m i) all) (2 ^ 30) before between
    → HaveGrown (λ i. quotas_of m i (commands_in all)) (257 * length (commands_in all)) between after → HaveGrown (λ i. quotas_of m i all) (2 ^ 30) before after
HaveGrown-both m all before between after light first then = record {
  count = then.count ∙ first.count;
  each = λ i within. omega (arith, first.each i within, then.each i (there i within), quotas_of-both m i all);
  few = λ i within. omega (arith, then.few i (there i within), quotas_of-both m i all, access_quotas-le m i all, length-commands_in all, commands_of-le all, light);
}
  where
    there : (i : ℕ) → i < length before → i < length between
    there i within = omega (arith, within, first.count)
