use Rattle.pair_windows.proofs.MarkedOps.{AreMarked-none}
use Rattle.pair_windows.proofs.hits.mark_all.Goals as goal

pub loop-entry-init : goal.loop-entry-init
loop-entry-init c = AreMarked-none c.args.script.now c.args.side c.args.domain c.args.hits.now
