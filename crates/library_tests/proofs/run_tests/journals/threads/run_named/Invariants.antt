use Rattle.library_tests.proofs.run_tests.journals.threads.run_named.Given as goal

abbrev pub ghosts-run : goal.ghosts-run
ghosts-run g a = record { name = a.journal.name }
