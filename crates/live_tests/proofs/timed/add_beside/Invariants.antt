use Rattle.live_tests.proofs.timed.add_beside.Given as goal

abbrev pub ghosts-run_beside : goal.ghosts-run_beside
ghosts-run_beside g a = record { table = a.shares.first.table }
