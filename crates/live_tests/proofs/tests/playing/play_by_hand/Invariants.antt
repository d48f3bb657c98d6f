use Rattle.live_tests.proofs.tests.playing.play_by_hand.Given as goal

abbrev pub ghosts-play_shared : goal.ghosts-play_shared
ghosts-play_shared g a = record { script = a.script.now; tree = a.logs.tree; slices = a.logs.slices }
