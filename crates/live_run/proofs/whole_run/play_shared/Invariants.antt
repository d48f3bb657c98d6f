use Rattle.live_run.proofs.whole_run.play_shared.Given as goal

abbrev pub ghosts-play_named : goal.ghosts-play_named
ghosts-play_named g a = record { table = a.share.table }
