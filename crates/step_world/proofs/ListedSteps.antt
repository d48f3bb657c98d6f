-- The steps of an order list by what is found out once.
use Rattle.std.proofs.Common.{◌≡◌, ℕ, ◌+◌, ◌<◌, ◌≤◌, length, refl, arith}
use Rattle.run_law.specs.Ops.{phase_in}
use Rattle.script_ops.specs.Values.{ScriptValue}
use Rattle.step_world.proofs.GivenAnswers.{answers-steps}
use Rattle.run_law.proofs.laws.PhaseThreads.{in_phase, of_phase}
use Rattle.step_world.specs.Listed.{AreOf}
use Rattle.step_world.specs.Machine.{MachineValue, Steps}
use Rattle.step_world.specs.declared.action.Stepped.TheVariants.{Ended}
use Rattle.step_world.specs.declared.listed.PhaseThreads.{PhaseThreads}

module _ (script : ScriptValue) (phase t : ℕ) (threads : PhaseThreads) (there : phase < length script.phases) (are : AreOf script phase threads) where
  -- one of the threads of a phase is of it
  pub one-present : threads.first ≤ t → t < threads.first + threads.count → phase_in script.phases t ≡ phase
  one-present from to = in_phase script phase t there (omega (arith, from, are.first)) (omega (arith, to, are.first, are.count))

  -- and no other thread is
  pub other-absent : ((threads.first ≤ t) × (t < threads.first + threads.count) → ⊥) → phase_in script.phases t ≡ phase → ⊥
  other-absent other here = let its = of_phase script phase t there here in other (omega (arith, its.0, are.first), omega (arith, its.1, are.first, are.count))

-- a thread of another phase takes no step
pub step-absent : (script : ScriptValue) (s : MachineValue) (t : ℕ) → (phase_in script.phases t ≡ s.phase → ⊥) → Steps script t s s
step-absent script s t away = answers-steps script t s s Ended ((λ here. absurd (away here)), refl)
