use Rattle.std.proofs.Common.{◌≡◌, ℕ, ◌+◌, ◌≤◌, ◌++◌, List, [], ◌∷◌, All, length, sym, ap, subst, ◌∙◌, arith, length-append}
use Rattle.std.proofs.lemmas.List.Elements.{All-push}
use Rattle.script_ops.specs.declared.op.Op.{Op}
use Rattle.script_ops.specs.Canonical.{AreNamed}
use Rattle.script_ops.specs.Values.{PhaseValue, threads_in}
use Rattle.script_text.proofs.Limits.{AreNamed-threads_in_push}
use Rattle.script_text.proofs.reader.Reader.close_phase.Goals as goal
use Rattle.script_ops.specs.declared.limits.TheConstants.{MOST_PHASES, MOST_PHASE_THREADS}

All-AreNamed_nil : (n : ℕ) (threads : List (List Op)) → threads ≡ [] → All (AreNamed n) threads
All-AreNamed_nil n [] e = λ k d h. absurd (omega arith)
All-AreNamed_nil n (t ∷ ts) e = absurd cc

pub returns-clause-limits : goal.returns-clause-limits
returns-clause-limits c =
    let s = c.close_thread.new.self in
    let limits = c.in-Ok.ensures.limits in
    let n = length s.names in
    let taken = c.replace-threads.ensures.value in
    let after = c.replace-threads.ensures.after in
    let fresh = c.new-2.ensures.items in
    let threads : c.replace-threads.result.items ≡ s.threads.items = cc in
    let none : c.replace-threads.new.dest.items ≡ [] = cc in
    let p : PhaseValue = record { order = c.replace-order.result.items; threads = c.replace-threads.result.items } in
    let phases : c.push.new.self.items ≡ s.phases.items ++ p ∷ [] = c.in_ok-push.ensures.items ∙ ap (λ (q : PhaseValue). s.phases.items ++ q ∷ []) c.new-3.ensures in
    let few : length p.threads ≤ MOST_PHASE_THREADS = subst (λ (ts : List (List Op)). length ts ≤ MOST_PHASE_THREADS) (sym threads) (omega (arith, limits.threads)) in
    let named : All (AreNamed n) p.threads = subst (λ (ts : List (List Op)). All (AreNamed n) ts) (sym threads) limits.threads_named in
    record {
      names = limits.names;
      weight = limits.weight;
      tasks = limits.tasks;
      phases = subst (λ (ps : List PhaseValue). length ps + 0 ≤ MOST_PHASES) (sym phases) (omega (arith, limits.phases, length-append s.phases.items (p ∷ [])));
      threads = subst (λ (ts : List (List Op)). length ts + 1 ≤ MOST_PHASE_THREADS) (sym none) (omega arith);
      each = subst (λ (ps : List PhaseValue). All (λ (q : PhaseValue). length q.threads ≤ MOST_PHASE_THREADS) ps) (sym phases) (All-push (λ (q : PhaseValue). length q.threads ≤ MOST_PHASE_THREADS) s.phases.items p limits.each few);
      ops_named = limits.ops_named;
      threads_named = All-AreNamed_nil n c.replace-threads.new.dest.items none;
      phases_named = subst (λ (ps : List PhaseValue). All (AreNamed n) (threads_in ps)) (sym phases) (AreNamed-threads_in_push n s.phases.items p limits.phases_named named);
    }
