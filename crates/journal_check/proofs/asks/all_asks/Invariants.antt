use Rattle.journal_check.specs.Asks.{AreAsks}
use Rattle.journal_check.proofs.asks.all_asks.Given as goal

abbrev pub invariant-loop-i : goal.invariant-loop-i
invariant-loop-i l = AreAsks l.script l.j l.i 0 l.asks.items
