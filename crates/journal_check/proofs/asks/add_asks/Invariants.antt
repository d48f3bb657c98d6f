use Rattle.journal_check.specs.Asks.{AreAsks}
use Rattle.journal_check.proofs.asks.add_asks.Given as goal

abbrev pub invariant-loop-p : goal.invariant-loop-p
invariant-loop-p l = AreAsks l.script l.j l.i l.p l.asks.items
