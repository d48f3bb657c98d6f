use Rattle.live_tests.proofs.timed.add_alone.Given as goal

abbrev pub ghosts-run_alone : goal.ghosts-run_alone
ghosts-run_alone a = record { table = a.shares.first.table }
