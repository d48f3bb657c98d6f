-- How the threads of a script stand in its phases, and what a caller of a running thread's ops knows by that.
use Rattle.std.proofs.Common.{◌≡◌, ℕ, zero, suc, ◌+◌, ◌-◌, ◌<◌, ◌≤◌, inl, inr, List, [], ◌∷◌, ◌++◌, refl, length, get_or, take, ap, ◌∙◌, subst, arith}
use Rattle.std.proofs.Math.Seq.{take-length}
use Rattle.std.proofs.lemmas.Bool.{cases_lt, le-ltb, lt-ltb}
use Rattle.std.proofs.lemmas.List.{length-append}
use Rattle.live_law.specs.DoneOps.{AreEnded, HasEnded}
use Rattle.live_run.specs.Names.{PassesValue}
use Rattle.live_run.specs.Phases.{AreBefore, IsAtEnd, passes_at}
use Rattle.run_law.specs.Journals.{JournalsValue}
use Rattle.run_law.specs.Ops.{phase_in}
use Rattle.script_ops.specs.Values.{PhaseValue, ScriptValue, first_thread, phase_at, threads_in, threads_of}

-- ---- numbers of threads

-- the threads up to a phase's end
length-threads_to : (phases : List PhaseValue) (i : ℕ) (d : PhaseValue) → i < length phases → length (threads_in (take (i + 1) phases)) ≡ length (threads_in (take i phases)) + length (get_or phases i d).threads
length-threads_to [] i d within = absurd (omega (arith, within))
length-threads_to (p ∷ ps) zero d within = length-append p.threads [] ∙ omega arith
length-threads_to (p ∷ ps) (suc i) d within =
    let one_more : suc i + 1 ≡ suc (i + 1) = omega arith in
    rw one_more (length-append p.threads (threads_in (take (i + 1) ps)) ∙ omega (arith, length-threads_to ps i d (omega (arith, within)), length-append p.threads (threads_in (take i ps))))

-- a thread of an earlier phase than one of this phase stands before them
earlier-first : (phases : List PhaseValue) (i u t : ℕ) → i < length phases → t < length (threads_in (take (i + 1) phases)) → phase_in phases u < phase_in phases t → u < length (threads_in (take i phases))
earlier-first [] i u t there within earlier = absurd (omega (arith, there))
earlier-first (p ∷ ps) zero u t there within earlier =
    let here : t < length p.threads = omega (arith, within, length-append p.threads []) in
    let none : phase_in (p ∷ ps) t ≡ 0 = rw (lt-ltb t (length p.threads) here) refl in
    absurd (omega (arith, earlier, none))
earlier-first (p ∷ ps) (suc i) u t there within earlier =
    let n = length p.threads in
    elim (cases_lt u n) [
      | inl first ↦ omega (arith, first, length-append p.threads (threads_in (take i ps)))
      | inr behind ↦ elim (cases_lt t n) [
        | inl here ↦
            let none : phase_in (p ∷ ps) t ≡ 0 = rw (lt-ltb t n here) refl in
            absurd (omega (arith, earlier, none))
        | inr after ↦
            let mine : phase_in (p ∷ ps) t ≡ 1 + phase_in ps (t - n) = rw (le-ltb t n after) refl in
            let its : phase_in (p ∷ ps) u ≡ 1 + phase_in ps (u - n) = rw (le-ltb u n behind) refl in
            let one_more : suc i + 1 ≡ suc (i + 1) = omega arith in
            let to : t < length (p.threads ++ threads_in (take (i + 1) ps)) = subst (λ m. t < length (threads_in (take m (p ∷ ps)))) one_more within in
            let rest : u - n < length (threads_in (take i ps)) = earlier-first ps i (u - n) (t - n) (omega (arith, there)) (omega (arith, to, after, length-append p.threads (threads_in (take (i + 1) ps)))) (omega (arith, earlier, mine, its)) in
            omega (arith, rest, behind, length-append p.threads (threads_in (take i ps)))
      ]
    ]

-- a thread stands before the end of its phase
pub in_phase-before : (phases : List PhaseValue) (i t : ℕ) → i < length phases → phase_in phases t ≡ i → t < length (threads_in (take (i + 1) phases))
in_phase-before [] i t there is = absurd (omega (arith, there))
in_phase-before (p ∷ ps) zero t there is = elim (cases_lt t (length p.threads)) [
  | inl here ↦ omega (arith, here, length-append p.threads [])
  | inr past ↦
      let mine : phase_in (p ∷ ps) t ≡ 1 + phase_in ps (t - length p.threads) = rw (le-ltb t (length p.threads) past) refl in
      absurd (omega (arith, is, mine))
]
in_phase-before (p ∷ ps) (suc i) t there is =
    let n = length p.threads in
    elim (cases_lt t n) [
      | inl here ↦
          let none : phase_in (p ∷ ps) t ≡ 0 = rw (lt-ltb t n here) refl in
          absurd (omega (arith, is, none))
      | inr past ↦
          let mine : phase_in (p ∷ ps) t ≡ 1 + phase_in ps (t - n) = rw (le-ltb t n past) refl in
          let rest : t - n < length (threads_in (take (i + 1) ps)) = in_phase-before ps i (t - n) (omega (arith, there)) (omega (arith, is, mine)) in
          let one_more : suc (i + 1) ≡ suc i + 1 = omega arith in
          let within : t < length (p.threads ++ threads_in (take (i + 1) ps)) = omega (arith, rest, past, length-append p.threads (threads_in (take (i + 1) ps))) in
          subst (λ m. t < length (threads_in (take m (p ∷ ps)))) one_more within
    ]

-- and one that stands there is of the phase, or of one before it
pub phase_in-before : (phases : List PhaseValue) (i t : ℕ) → t < length (threads_in (take (i + 1) phases)) → phase_in phases t ≤ i
phase_in-before [] i t within = omega arith
phase_in-before (p ∷ ps) zero t within =
    let here : t < length p.threads = omega (arith, within, length-append p.threads []) in
    let none : phase_in (p ∷ ps) t ≡ 0 = rw (lt-ltb t (length p.threads) here) refl in
    omega (arith, none)
phase_in-before (p ∷ ps) (suc i) t within =
    let n = length p.threads in
    elim (cases_lt t n) [
      | inl here ↦
          let none : phase_in (p ∷ ps) t ≡ 0 = rw (lt-ltb t n here) refl in
          omega (arith, none)
      | inr past ↦
          let mine : phase_in (p ∷ ps) t ≡ 1 + phase_in ps (t - n) = rw (le-ltb t n past) refl in
          let one_more : suc i + 1 ≡ suc (i + 1) = omega arith in
          let to : t < length (p.threads ++ threads_in (take (i + 1) ps)) = subst (λ m. t < length (threads_in (take m (p ∷ ps)))) one_more within in
          let rest : phase_in ps (t - n) ≤ i = phase_in-before ps i (t - n) (omega (arith, to, past, length-append p.threads (threads_in (take (i + 1) ps)))) in
          omega (arith, rest, mine)
    ]

-- the first thread after a phase
pub first_thread-next : (script : ScriptValue) (phase : ℕ) → phase < length script.phases → first_thread script (phase + 1) ≡ first_thread script phase + length (phase_at script phase).threads
first_thread-next script phase there = length-threads_to script.phases phase (record { order = []; threads = [] }) there

-- after the last phase there are no more
pub first_thread-all : (script : ScriptValue) → first_thread script (length script.phases) ≡ length (threads_of script)
first_thread-all script = ap (λ (phases : List PhaseValue). length (threads_in phases)) (take-length script.phases)

-- ---- what a caller knows

-- All threads of earlier phases have ended for one of this phase, when each thread before its first has: so a thread may begin.
pub AreEnded-in_phase : (script : ScriptValue) (v : JournalsValue) (phase t : ℕ) → phase < length script.phases → t < first_thread script (phase + 1) → ((u : ℕ) → u < first_thread script phase → HasEnded script v u) → AreEnded script v t
AreEnded-in_phase script v phase t there within ended u earlier = ended u (earlier-first script.phases phase u t there within earlier)

-- When each thread is at its end, all phases are made: so the run may be closed.
pub AreBefore-end : (script : ScriptValue) (ps : List PassesValue) → length ps ≡ length (threads_of script) → ((t : ℕ) → t < length ps → (passes_at ps t).seen.thread ≡ t) → ((t : ℕ) → t < length ps → IsAtEnd script (passes_at ps t))
    → AreBefore script (length script.phases) ps
AreBefore-end script ps count threads ends = record {
  count = count;
  threads = threads;
  done = λ t within early. ends t within;
  fresh = λ t within late. absurd (omega (arith, within, late, count, first_thread-all script));
  seen = λ t u within late early. absurd (omega (arith, within, late, count, first_thread-all script));
}
