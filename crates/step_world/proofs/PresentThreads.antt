-- Which threads are of the present phase of a world, and which of them have a tag.
use Rattle.std.proofs.Common.{◌≡◌, ℕ, ◌+◌, ◌-◌, ◌<◌, ◌≤◌, false, inl, inr, List, [], ◌∷◌, length, get_or, Option, Some, None, refl, subst, arith}
use Rattle.std.specs.Prelude.{IsSome}
use Rattle.std.proofs.lemmas.Bool.{cases_lt, le-ltb, lt-ltb}
use Rattle.std.proofs.lemmas.List.{length-append}
use Rattle.rc_base.specs.declared.names.Tag.{Tag}
use Rattle.run_law.specs.Ops.{is_command, phase_in}
use Rattle.script_ops.specs.Values.{PhaseValue, ScriptValue, first_thread, op_at, phase_at, threads_in, threads_of}
use Rattle.script_ops.specs.declared.op.Op.{Op}
use Rattle.script_ops.specs.declared.op.Op.TheVariants as ops
use Rattle.run_law.proofs.laws.CountedOps.{thread_within}
use Rattle.run_law.proofs.laws.PhaseThreads.{of_phase}
use Rattle.step_world.proofs.TakenWorlds.{within-next}
use Rattle.step_world.specs.Answers.{HasNext, IsAtEnd}
use Rattle.step_world.specs.Machine.{MachineValue, thread_at}
use Rattle.step_world.specs.Worlds.{HasLists, IsWorldOf, machine_of}
use Rattle.step_world.specs.declared.thread_state.ThreadState.TheVariants.{Tagged}
use Rattle.step_world.specs.declared.world.World.{World}

-- a thread past all phases is past all threads
past_all : (phases : List PhaseValue) (t : ℕ) → length phases ≤ phase_in phases t → length (threads_in phases) ≤ t
past_all [] t past = omega arith
past_all (p ∷ ps) t past = elim (cases_lt t (length p.threads)) [
  | inl here ↦ absurd (let none : phase_in (p ∷ ps) t ≡ 0 = rw (lt-ltb t (length p.threads) here) refl in omega (arith, none, past))
  | inr behind ↦
      let next : phase_in (p ∷ ps) t ≡ 1 + phase_in ps (t - length p.threads) = rw (le-ltb t (length p.threads) behind) refl in
      omega (arith, past_all ps (t - length p.threads) (omega (arith, next, past)), length-append p.threads (threads_in ps), behind)
]

-- an op or none
none_or : (o : Option Op) → (IsSome o → ⊥) → o ≡ None
none_or None not_some = refl
none_or (Some op) not_some = absurd (not_some refl)

-- when all phases are over, each thread is at its end
pub over-at_end : (script : ScriptValue) (s : MachineValue) (t : ℕ) → s.phase ≡ length script.phases → IsAtEnd script s t
over-at_end script s t over here = none_or (op_at script t (thread_at s t).next)
    (λ some. omega (arith, thread_within (threads_of script) t (thread_at s t).next some, past_all script.phases t (omega (arith, here, over))))

-- a thread before those of the phase
pub before-at_end : (script : ScriptValue) (s : MachineValue) (t first : ℕ) → s.phase < length script.phases → first ≡ first_thread script s.phase → t < first → IsAtEnd script s t
before-at_end script s t first there is before here = absurd (omega (arith, (of_phase script s.phase t there here).0, before, is))

-- a thread behind them
pub behind-at_end : (script : ScriptValue) (s : MachineValue) (t first count : ℕ) → s.phase < length script.phases → first ≡ first_thread script s.phase → count ≡ length (phase_at script s.phase).threads
    → first ≤ t → count ≤ t - first → IsAtEnd script s t
behind-at_end script s t first count there is counts from behind here = absurd (omega (arith, (of_phase script s.phase t there here).1, from, behind, is, counts))

-- a thread with a tag is at an access
pub accesses : (script : ScriptValue) (t : ℕ) (tag : Tag) (op : Op) (w : World) → IsWorldOf script w → HasNext script (machine_of w) t op → (thread_at (machine_of w) t).state ≡ Tagged tag
    → ((task cpu addr : ℕ) → op ≡ ops.Access task cpu addr → ⊥) → ⊥
accesses script t tag op w world next place other =
    let lists : HasLists script t (thread_at (machine_of w) t).next (Tagged tag) (get_or w.lists.items t []) =
    subst (λ p. HasLists script t (thread_at (machine_of w) t).next p (get_or w.lists.items t [])) place (world.lists t [] (within-next script w t op world next)) in
    by_kind op (lists.access op next.is) other
  where
    by_kind : (c : Op) → is_command c ≡ false → ((task cpu addr : ℕ) → c ≡ ops.Access task cpu addr → ⊥) → ⊥
    by_kind (ops.Access task cpu addr) is none = none task cpu addr refl
    by_kind c is none = absurd cc
