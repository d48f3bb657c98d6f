-- The script of a trace meets the rules of every script.
use lib.Count.{ones}
use Rattle.std.proofs.Common.{◌≡◌, ℕ, zero, suc, ◌+◌, ◌*◌, ◌%◌, ◌<◌, ◌≤◌, true, List, [], ◌∷◌, length, map, refl, arith, All}
use Rattle.std.specs.Prelude.{codes}
use Rattle.std.specs.List.{Contains, range_with_len}
use Rattle.std.specs.List.Sorted.{IsStrictlyIncreasing}
use Rattle.std.proofs.lemmas.List.Elements.{All-cons, All-from_recursion, All-nil}
use Rattle.std.proofs.lemmas.List.FromFn.{length-map-range_with_len}
use Rattle.std.proofs.lemmas.List.Sums.{sum_by-cons}
use Rattle.machine.proofs.laws.Ranges.{is_machine-true}
use Rattle.machine.specs.Ranges.{is_machine}
use Rattle.machine.specs.declared.parameters.Parameters.{Parameters}
use Rattle.path_names.specs.ShortNames.{IsShortName}
use Rattle.script_ops.specs.Canonical.{AreAllShort, AreNamed, IsNamed, IsShort}
use Rattle.script_ops.specs.Fits.{AreFit, Fits}
use Rattle.script_ops.specs.Values.{IsLawful, PhaseValue, threads_of, total_weight}
use Rattle.script_ops.specs.Weights.{weight_of, weights_of}
use Rattle.script_ops.specs.declared.limits.TheConstants.{MOST_PHASE_THREADS}
use Rattle.script_ops.specs.declared.op.Op.{Op}
use Rattle.trace_gen.specs.Draws.{draw_at}
use Rattle.trace_gen.specs.Scripts.{access, accesses, opening_ops, trace_machine, trace_script}
use Rattle.trace_gen.specs.Trace.{task_draws}
use Rattle.trace_gen.specs.declared.making.TheConstants.{MOST_THREAD_ACCESSES}

-- the machine passes the test
pub is_machine_trace : is_machine trace_machine ≡ true
unfolding is_machine ones
is_machine_trace = refl

-- ---- the accesses of a task

-- what holds of each access of a task
All-accesses : (P : Op → Type 0) (task : ℕ) → ((draw : ℕ) → P (access task draw)) → (draws : List ℕ) → All P (accesses task draws)
All-accesses P task each [] = All-nil P
All-accesses P task each (draw ∷ draws) = All-cons P (access task draw) (accesses task draws) (each draw) (All-accesses P task each draws)

-- each access weighs 1
weights_of-accesses : (task : ℕ) (draws : List ℕ) → weights_of trace_machine (accesses task draws) ≡ length draws
weights_of-accesses task [] = refl
weights_of-accesses task (draw ∷ draws) = (
    let rest = weights_of-accesses task draws in
    let all = sum_by-cons (weight_of trace_machine) (access task draw) (accesses task draws) in omega arith)

-- an access of one of the four tasks fits
Fits-access : (task draw : ℕ) → 1 ≤ task → task ≤ 4 → Contains (range_with_len 1 4) task → Fits trace_machine (range_with_len 1 4) (access task draw)
Fits-access task draw some few declared =
    let lines : draw % 4096 < 4096 = omega arith in
    (declared, omega (arith, few), omega (arith, few, lines))

-- ---- the threads

-- what holds of the ops of the first phase, and of those of each task, holds of all threads
All-threads : (P : List Op → Type 0) (n : ℕ) → P opening_ops → ((task : ℕ) → 1 ≤ task → task ≤ 4 → Contains (range_with_len 1 4) task → P (accesses task (task_draws n task))) → All P (threads_of (trace_script n))
unfolding trace_script
All-threads P n opening each = All-from_recursion P (threads_of (trace_script n))
    (opening, (each 1 (omega arith) (omega arith) (0, omega arith, refl), (each 2 (omega arith) (omega arith) (1, omega arith, refl), (each 3 (omega arith) (omega arith) (2, omega arith, refl), (each 4 (omega arith) (omega arith) (3, omega arith, refl), tt)))))

-- a number that is below another
known : (count id : ℕ) → id < count → All (λ (x : ℕ). x < count) (id ∷ [])
known count id lt = All-cons (λ (x : ℕ). x < count) id [] lt (All-nil (λ (x : ℕ). x < count))

-- the names of the groups
abbrev names : List (List ℕ)
names = codes "g1" ∷ codes "g2" ∷ []

-- a name that is short
brief : (id : ℕ) → IsShortName names id → All (IsShortName names) (id ∷ [])
brief id is = All-cons (IsShortName names) id [] is (All-nil (IsShortName names))

-- ---- the commands of the first phase

AreNamed-opening : AreNamed 2 opening_ops
AreNamed-opening =
    let none = All-nil (λ (x : ℕ). x < 2) in
    let first = known 2 0 (omega arith) in
    let second = known 2 1 (omega arith) in
    All-from_recursion (IsNamed 2) opening_ops (none, (first, (first, (first, (second, (second, (first, (second, (none, tt)))))))))

AreAllShort-opening : AreAllShort names opening_ops
AreAllShort-opening =
    let none = All-nil (IsShortName names) in
    let first = brief 0 (omega arith) in
    let second = brief 1 (omega arith) in
    All-from_recursion (IsShort names) opening_ops (none, (first, (first, (first, (second, (second, (first, (second, (none, tt)))))))))

AreFit-opening : AreFit trace_machine (range_with_len 1 4) opening_ops
AreFit-opening = All-from_recursion (Fits trace_machine (range_with_len 1 4)) opening_ops
    (omega arith, (tt, (omega arith, (omega arith, (tt, (omega arith, (omega arith, (omega arith, (tt, tt)))))))))

-- ---- the whole

-- its tasks rise
rising : IsStrictlyIncreasing (range_with_len 1 4)
rising zero lt = omega arith
rising (suc zero) lt = omega arith
rising (suc (suc zero)) lt = omega arith
rising (suc (suc (suc k))) lt = absurd (omega arith)

-- its ops weigh 21, and 1 for each access
total_weight-trace_script : (n : ℕ) → total_weight (trace_script n) ≡ 21 + 4 * n
unfolding trace_script
total_weight-trace_script n =
    let draws : (place : ℕ) → length (map (draw_at n) (range_with_len place n)) ≡ n = λ place. length-map-range_with_len (draw_at n) place n in
    omega (arith, weights_of-accesses 1 (task_draws n 1), weights_of-accesses 2 (task_draws n 2), weights_of-accesses 3 (task_draws n 3), weights_of-accesses 4 (task_draws n 4), draws (1 * n + 1), draws (2 * n + 1), draws (3 * n + 1), draws (4 * n + 1))

-- all of it
pub IsLawful-trace_script : (n : ℕ) → n ≤ MOST_THREAD_ACCESSES → IsLawful (trace_script n)
unfolding trace_script
IsLawful-trace_script n few = record {
  in_range = is_machine-true trace_machine is_machine_trace;
  rising = rising;
  few_tasks = omega arith;
  few = record { few_phases = omega arith; few_threads = All-from_recursion (λ (p : PhaseValue). length p.threads ≤ MOST_PHASE_THREADS) (trace_script n).phases (omega arith, (omega arith, tt)) };
  named = All-threads (AreNamed 2) n AreNamed-opening (λ task some most declared. All-accesses (IsNamed 2) task (λ draw. All-nil (λ (x : ℕ). x < 2)) (task_draws n task));
  short = All-threads (AreAllShort names) n AreAllShort-opening (λ task some most declared. All-accesses (IsShort names) task (λ draw. All-nil (IsShortName names)) (task_draws n task));
  fit = All-threads (AreFit trace_machine (range_with_len 1 4)) n AreFit-opening
      (λ task some most declared. All-accesses (Fits trace_machine (range_with_len 1 4)) task (λ draw. Fits-access task draw some most declared) (task_draws n task));
  light = omega (arith, few, total_weight-trace_script n);
}

-- a script of its parts
pub trace_script-parts : (n : ℕ) (machine : Parameters) (tasks : List ℕ) (own : List (List ℕ)) (phases : List PhaseValue) → machine ≡ trace_machine → tasks ≡ range_with_len 1 4 → own ≡ codes "g1" ∷ codes "g2" ∷ [] → phases ≡ (trace_script n).phases
    → record { machine = machine; tasks = tasks; names = own; phases = phases } ≡ trace_script n
unfolding trace_script
trace_script-parts n machine tasks own phases m t o p = rw (m, t, o, p) refl
