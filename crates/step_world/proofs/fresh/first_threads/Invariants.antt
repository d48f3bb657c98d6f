use Rattle.step_world.specs.Openings.{AreFirst}
use Rattle.step_world.proofs.fresh.first_threads.Given as goal

abbrev pub invariant-loop : goal.invariant-loop
invariant-loop l = AreFirst l.counter l.threads.items
