use Rattle.live_run.proofs.whole_run.play.Given as goal

abbrev pub ghosts-play_shared : goal.ghosts-play_shared
ghosts-play_shared g a = record { script = a.script.now; tree = a.logs.tree; slices = a.logs.slices }
