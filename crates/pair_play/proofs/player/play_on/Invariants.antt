use Rattle.pair_play.specs.Playing.{IsPlayedSoFar}
use Rattle.pair_play.proofs.player.play_on.Given as goal

abbrev pub invariant-loop-i : goal.invariant-loop-i
invariant-loop-i g l = IsPlayedSoFar g.C.Caches.so_far l.script l.i l.player.commands l.player.caches
