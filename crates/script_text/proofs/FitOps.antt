-- What the ops so far keep to, while threads and phases are closed and names come.
use Rattle.std.proofs.Common.{◌≡◌, ℕ, ◌≤◌, ◌++◌, Bool, true, false, cond, List, [], ◌∷◌, All, sym, ap, subst, ◌∙◌, arith}
use Rattle.std.proofs.lemmas.Grind.{flat_map-append}
use Rattle.std.proofs.lemmas.List.{append-nil}
use Rattle.std.proofs.lemmas.List.Elements.{All-nil, All-append, All-push}
use Rattle.std.proofs.lemmas.List.Sums.{sum_by_push, sum_by-append}
use Rattle.script_ops.specs.declared.op.Op.{Op}
use Rattle.script_ops.specs.Fits.{AreFit}
use Rattle.script_text.specs.Meaning.{with_names}
use Rattle.script_text.specs.States.{ReaderState, close_thread, close_phase, is_thread, is_head, IsFit, IsSound}
use Rattle.path_names.specs.Interned.{Keeps}
use Rattle.script_ops.specs.Canonical.{AreAllShort}
use Rattle.script_ops.proofs.laws.ShortOps.{AreAllShort-kept, All-AreAllShort_kept}
use Rattle.script_lines.specs.Tasks.{count_of, ids_of}
use Rattle.script_ops.specs.Values.{PhaseValue, threads_in}
use Rattle.script_ops.specs.Weights.{weights_of}
use Rattle.script_ops.specs.declared.limits.TheConstants.{MOST_TASKS, MOST_WEIGHT}

-- where there are no ops, any machine and few tasks will do
pub IsFit-no_ops : (s : ReaderState) → (s.ops ≡ []) × (s.threads ≡ []) × (s.phases ≡ []) → count_of s.tasks ≤ MOST_TASKS → s.weight ≤ MOST_WEIGHT → IsFit s
IsFit-no_ops s none few_tasks few = record {
  few_tasks = few_tasks;
  ops = subst (λ (xs : List Op). AreFit s.machine (ids_of s.tasks) xs) (sym none.0) (All-nil _);
  threads = subst (λ (xs : List (List Op)). All (AreFit s.machine (ids_of s.tasks)) xs) (sym none.1) (All-nil _);
  phases = subst (λ (xs : List PhaseValue). All (AreFit s.machine (ids_of s.tasks)) (threads_in xs)) (sym none.2) (All-nil _);
  short_ops = subst (λ (xs : List Op). AreAllShort s.names xs) (sym none.0) (All-nil _);
  short_threads = subst (λ (xs : List (List Op)). All (AreAllShort s.names) xs) (sym none.1) (All-nil _);
  short_phases = subst (λ (xs : List PhaseValue). All (AreAllShort s.names) (threads_in xs)) (sym none.2) (All-nil _);
  light = rw (none.0, none.1, none.2) (omega arith);
  counted = few;
}

-- the open thread among the closed ones
IsFit-thread_push : (s : ReaderState) → IsFit s → IsFit (record s { threads = s.threads ++ s.ops ∷ []; ops = [] })
IsFit-thread_push s fit = record {
  few_tasks = fit.few_tasks;
  ops = All-nil _;
  threads = All-push (AreFit s.machine (ids_of s.tasks)) s.threads s.ops fit.threads fit.ops;
  phases = fit.phases;
  short_ops = All-nil _;
  short_threads = All-push (AreAllShort s.names) s.threads s.ops fit.short_threads fit.short_ops;
  short_phases = fit.short_phases;
  light = omega (arith, fit.light, sum_by_push (weights_of s.machine) s.threads s.ops);
  counted = fit.counted;
}

-- a thread that is closed
pub IsFit-close_thread : (s : ReaderState) → IsFit s → IsFit (close_thread s)
IsFit-close_thread s fit = at (is_thread s.place)
  where
    at : (b : Bool) → IsFit (cond b (record s { threads = s.threads ++ s.ops ∷ []; ops = [] }) s)
    at true = IsFit-thread_push s fit
    at false = fit

-- the open phase among the closed ones
IsFit-phase_push : (s : ReaderState) (order : List ℕ) → IsFit s → IsFit (record s { phases = s.phases ++ (record { order = order; threads = s.threads }) ∷ []; order = []; threads = [] })
IsFit-phase_push s order fit =
    let p : PhaseValue = record { order = order; threads = s.threads } in
    let split : threads_in (s.phases ++ p ∷ []) ≡ threads_in s.phases ++ s.threads = flat_map-append (λ (q : PhaseValue). q.threads) s.phases (p ∷ []) ∙ ap (λ (ts : List (List Op)). threads_in s.phases ++ ts) (append-nil s.threads) in
    record {
      few_tasks = fit.few_tasks;
      ops = fit.ops;
      threads = All-nil (AreFit s.machine (ids_of s.tasks));
      phases = subst (λ (ts : List (List Op)). All (AreFit s.machine (ids_of s.tasks)) ts) (sym split) (All-append (AreFit s.machine (ids_of s.tasks)) (threads_in s.phases) s.threads fit.phases fit.threads);
      short_ops = fit.short_ops;
      short_threads = All-nil (AreAllShort s.names);
      short_phases = subst (λ (ts : List (List Op)). All (AreAllShort s.names) ts) (sym split) (All-append (AreAllShort s.names) (threads_in s.phases) s.threads fit.short_phases fit.short_threads);
      light = rw split (omega (arith, fit.light, sum_by-append (weights_of s.machine) (threads_in s.phases) s.threads));
      counted = fit.counted;
    }

-- a phase that is closed
pub IsFit-close_phase : (s : ReaderState) → IsFit s → IsFit (close_phase s)
IsFit-close_phase s fit = at (is_head s.place) (is_thread s.place)
  where
    at : (head thread : Bool) → IsFit (cond head s (record (cond thread (record s { threads = s.threads ++ s.ops ∷ []; ops = [] }) s) { phases = s.phases ++ (record { order = s.order; threads = (cond thread (record s { threads = s.threads ++ s.ops ∷ []; ops = [] }) s).threads }) ∷ []; order = []; threads = [] }))
    at true thread = fit
    at false true = IsFit-phase_push (record s { threads = s.threads ++ s.ops ∷ []; ops = [] }) s.order (IsFit-thread_push s fit)
    at false false = IsFit-phase_push s s.order fit

-- a state of more names
pub IsFit-with_names : (s : ReaderState) (names : List (List ℕ)) → Keeps s.names names → IsSound s → IsFit s → IsFit (with_names s names)
IsFit-with_names s names kept sound fit = record {
  few_tasks = fit.few_tasks;
  ops = fit.ops;
  threads = fit.threads;
  phases = fit.phases;
  short_ops = AreAllShort-kept s.names names s.ops kept sound.ops_named fit.short_ops;
  short_threads = All-AreAllShort_kept s.names names s.threads kept sound.threads_named fit.short_threads;
  short_phases = All-AreAllShort_kept s.names names (threads_in s.phases) kept sound.phases_named fit.short_phases;
  light = fit.light;
  counted = fit.counted;
}
