use Rattle.std.proofs.Common.{length, ap, ◌∙◌, arith}
use Rattle.pair_play.proofs.laws.CommandsSoFar.{replies-AreCommandsSoFar}
use Rattle.pair_play.proofs.player.play_on.Goals as goal

pub returns-clause-replies : goal.returns-clause-replies
returns-clause-replies g c =
    c.into_replies.ensures ∙ replies-AreCommandsSoFar c.args.script.now c.loop-i.i c.loop-i.player.commands c.loop-i.invariant.commands (omega (arith, ap length c.ops-i-end.ensures))
