use Rattle.step_world.specs.Worlds.{IsWorldOf}
use Rattle.library_tests.proofs.run_tests.steps.answers.Given as goal

abbrev pub invariant-loop-t : goal.invariant-loop-t
invariant-loop-t l = IsWorldOf l.script l.world
