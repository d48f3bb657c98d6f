use Rattle.std.proofs.Common.{◌≡◌, ℕ, ◌+◌, ◌<◌, ◌≤◌, inl, inr, List, length, sym, subst, arith}
use Rattle.std.proofs.lemmas.Bool.{cases_lt}
use Rattle.run_law.proofs.laws.PhaseThreads.{in_phase, of_phase}
use Rattle.journal_check.proofs.Starts.{IsEndOf-more, IsEndOf-same}
use Rattle.journal_check.specs.Marks.{IsEndOf, IsThreadEnd, IsThreadInOrder, OfPhase}
use Rattle.journal_check.specs.Tables.{row_of}
use Rattle.script_ops.specs.Values.{ops_of}
use Rattle.script_ops.specs.declared.op.Op.{Op}
use Rattle.journal_check.proofs.marks.end_phase.Goals as goal

pub returns-in-None : goal.returns-in-None
returns-in-None c =
    let script = c.args.script.now in
    let table = c.args.starts.now in
    let t = c.loop-thread.thread in
    let here : OfPhase script c.args.phase t =
    in_phase script c.args.phase t c.requires.phase (omega (arith, c.first_thread-first.ensures.first, c.loop-thread.auto.thread)) (omega (arith, c.first_thread-first.ensures.first, c.thread_count.ensures.count, c.loop-thread-test.true)) in
    λ order. c.in-None.ensures
    (subst (λ (os : List Op). IsThreadInOrder os c.row.result.now c.args.barrier) (sym c.ops.ensures.ops)
    (subst (λ (ns : List ℕ). IsThreadInOrder (ops_of script t) ns c.args.barrier) (sym c.row.ensures) (order t here)))

pub loop-thread-preserved : goal.loop-thread-preserved
loop-thread-preserved c =
    let script = c.args.script.now in
    let table = c.args.starts.now in
    let t = c.loop-thread.thread in
    let first = c.first_thread-first.result in
    let low : first ≤ t = c.loop-thread.auto.thread in
    let barrier = c.args.barrier in
    let told = c.in-Some.ensures in
    let ordered : IsThreadInOrder (ops_of script t) (row_of table t) barrier =
    subst (λ (os : List Op). IsThreadInOrder os (row_of table t) barrier) c.ops.ensures.ops (subst (λ (ns : List ℕ). IsThreadInOrder c.ops.result.now ns barrier) c.row.ensures told.0) in
    let ended : IsThreadEnd (ops_of script t) (row_of table t) barrier (length (ops_of script t)) c.in-Some.end =
    subst (λ (os : List Op). IsThreadEnd os (row_of table t) barrier (length os) c.in-Some.end) c.ops.ensures.ops (subst (λ (ns : List ℕ). IsThreadEnd c.ops.result.now ns barrier (length c.ops.result.now) c.in-Some.end) c.row.ensures told.1) in
    record {
      order = λ u from to. elim (cases_lt u t) [
        | inl before ↦ c.loop-thread.invariant.order u from before
        | inr after ↦ (let same : t ≡ u = omega arith in subst (λ v. IsThreadInOrder (ops_of script v) (row_of table v) barrier) same ordered)
      ];
      end =
          subst (λ e. IsEndOf script table (λ u. (first ≤ u) × (u < t + 1)) barrier e) (sym c.max-greatest.ensures)
          (IsEndOf-more script table barrier (λ u. (first ≤ u) × (u < t)) (λ u. (first ≤ u) × (u < t + 1)) c.loop-thread.greatest c.in-Some.end t
          (λ u passes. (passes.0, (let less = passes.1 in omega arith)))
          (low, omega arith)
          (λ u passes. elim (cases_lt u t) [ inl before ↦ inl (passes.0, before) | inr after ↦ inr (let less = passes.1 in omega arith) ])
          c.requires.table c.loop-thread.invariant.end ended);
    }

pub returns : goal.returns
returns c =
    let script = c.args.script.now in
    let table = c.args.starts.now in
    let t = c.loop-thread.thread in
    let first = c.first_thread-first.result in
    let is = c.first_thread-first.ensures.first in
    let count = c.thread_count.ensures.count in
    let over = c.loop-thread-test.false in
    let end : t ≡ first + c.thread_count.result = omega (arith, over, c.loop-thread.auto.thread-end, c.loop-thread.auto.thread) in
    let to : (u : ℕ) → (first ≤ u) × (u < t) → OfPhase script c.args.phase u = λ u passes. (let from = passes.0 in let before = passes.1 in in_phase script c.args.phase u c.requires.phase (omega (arith, is, from)) (omega (arith, is, before, end, count))) in
    let back : (u : ℕ) → OfPhase script c.args.phase u → (first ≤ u) × (u < t) = λ u here. (let it = of_phase script c.args.phase u c.requires.phase here in let from = it.0 in let before = it.1 in (omega (arith, is, from), omega (arith, is, before, end, count))) in (
      (λ u here. (let it = back u here in c.loop-thread.invariant.order u it.0 it.1)),
      IsEndOf-same script table c.args.barrier (λ u. (first ≤ u) × (u < t)) (OfPhase script c.args.phase) c.loop-thread.greatest to back c.loop-thread.invariant.end,
    )
