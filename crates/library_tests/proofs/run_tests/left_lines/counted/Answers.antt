use Rattle.library_tests.proofs.run_tests.left_lines.counted.Goals as goal

pub returns-clause-rmids : goal.returns-clause-rmids
returns-clause-rmids c = λ d at. (c.in_ok-of.ensures.domains.lines 0 d at).rmids
