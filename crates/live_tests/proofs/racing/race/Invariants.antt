use Rattle.live_tests.proofs.racing.race.Given as goal

abbrev pub ghosts-run : goal.ghosts-run
ghosts-run g a = record { table = a.shares.first.table }
