use Rattle.std.proofs.Common.{◌≡◌, slice_get, Some, subst, arith}
use Rattle.seen_journal.specs.Passes.{new_pass}
use Rattle.library_tests.proofs.run_tests.journals.threads.run.Goals as goal

pub new_workers-requires-clause-first : goal.new_workers-requires-clause-first
new_workers-requires-clause-first g c = cc (subst (λ l. slice_get l 0 ≡ Some (new_pass g.N.Named.name 0)) c.in_ok-passes.ensures.passes (c.requires.passes 0 (omega arith)))

pub new_workers-requires-clause-second : goal.new_workers-requires-clause-second
new_workers-requires-clause-second g c = cc (subst (λ l. slice_get l 1 ≡ Some (new_pass g.N.Named.name 1)) c.in_ok-passes.ensures.passes (c.requires.passes 1 (omega arith)))

pub new_workers-requires-clause-third : goal.new_workers-requires-clause-third
new_workers-requires-clause-third g c = cc (subst (λ l. slice_get l 2 ≡ Some (new_pass g.N.Named.name 2)) c.in_ok-passes.ensures.passes (c.requires.passes 2 (omega arith)))

pub new_workers-requires-clause-fourth : goal.new_workers-requires-clause-fourth
new_workers-requires-clause-fourth g c = cc (subst (λ l. slice_get l 3 ≡ Some (new_pass g.N.Named.name 3)) c.in_ok-passes.ensures.passes (c.requires.passes 3 (omega arith)))
