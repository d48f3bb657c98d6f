use Rattle.std.proofs.Common.{◌≡◌, ℕ, zero, suc, [], ◌∷◌, ◌+◌, ◌-◌, ◌<◌, inl, inr, List, length, ◌++◌, get_or, replicate, take, refl, sym, ap, ◌∙◌, arith}
use Rattle.std.proofs.lemmas.Bool.{cases_lt}
use Rattle.std.proofs.lemmas.List.{get_or-append_right, get_or-replicate, get_or_append_left, length-append, length-replicate, take_all}
use Rattle.run_law.proofs.laws.PhaseThreads.{in_phase, no_phase}
use Rattle.script_ops.specs.Values.{PhaseValue, phase_at, threads_in, threads_of}
use Rattle.journal_check.proofs.phases.phases_of.Goals as goal

-- one phase more
length-threads_in_take : (phases : List PhaseValue) (phase : ℕ) → phase < length phases → length (threads_in (take (suc phase) phases)) ≡ length (threads_in (take phase phases)) + length (get_or phases phase no_phase).threads
length-threads_in_take [] phase within = absurd (omega arith)
length-threads_in_take (p ∷ ps) zero within = omega (arith, length-append p.threads (threads_in []))
length-threads_in_take (p ∷ ps) (suc phase) within =
    let rest = length-threads_in_take ps phase (omega arith) in
    let more = length-append p.threads (threads_in (take (suc phase) ps)) in
    let some = length-append p.threads (threads_in (take phase ps)) in
    omega (arith, rest, more, some)

pub loop-phase-preserved : goal.loop-phase-preserved
loop-phase-preserved c =
    let script = c.args.script.now in
    let old = c.loop-phase.phases.items in
    let new = c.push_times.new.phases.items in
    let phase = c.loop-phase.phase in
    let count = c.thread_count.result in
    let within : phase < length script.phases = omega (arith, c.loop-phase-test.true, c.phases-phase-end.ensures.phases) in
    let is : new ≡ old ++ replicate count phase = c.in_ok-push_times.ensures in
    let size : length new ≡ length old + count = ap (λ (xs : List ℕ). length xs) is ∙ (length-append old (replicate count phase) ∙ ap (λ n. length old + n) (length-replicate count phase)) in
    let counted : count ≡ length (phase_at script phase).threads = c.thread_count.ensures.count in
    let more : length (threads_in (take (phase + 1) script.phases)) ≡ length (threads_in (take phase script.phases)) + length (phase_at script phase).threads = (let next : phase + 1 ≡ suc phase = omega arith in ap (λ n. length (threads_in (take n script.phases))) next ∙ length-threads_in_take script.phases phase within) in
    record {
      all = (let before = c.loop-phase.invariant.all in omega arith);
      each = λ t here. elim (cases_lt t (length old)) [
        | inl first ↦ ap (λ (xs : List ℕ). get_or xs t 0) is ∙ (get_or_append_left old (replicate count phase) 0 t first ∙ c.loop-phase.invariant.each t first)
        | inr after ↦
            let before = c.loop-phase.invariant.all in
            let low : t - length old < count = omega arith in
            ap (λ (xs : List ℕ). get_or xs t 0) is
            ∙ (get_or-append_right old (replicate count phase) (length old) t 0 refl after
            ∙ (get_or-replicate count (t - length old) phase 0 low
            ∙ sym (in_phase script phase t within (omega arith) (omega arith))))
      ];
    }

pub returns : goal.returns
returns c =
    let script = c.args.script.now in
    let all : length c.loop-phase.phases.items ≡ length (threads_of script) = c.loop-phase.invariant.all ∙ ap (λ ps. length (threads_in ps)) (take_all c.loop-phase.phase script.phases (omega (arith, c.loop-phase-test.false, c.phases-phase-end.ensures.phases))) in
    record {
      all = all;
      each = λ t here. c.loop-phase.invariant.each t (omega arith);
    }
