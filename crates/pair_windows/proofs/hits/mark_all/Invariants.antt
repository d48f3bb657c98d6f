use Rattle.std.proofs.Common.{take}
use Rattle.pair_windows.specs.Hits.{AreMarked}
use Rattle.pair_windows.proofs.hits.mark_all.Given as goal

-- the entries so far have marked their ops
abbrev pub invariant-loop-entry : goal.invariant-loop-entry
invariant-loop-entry l = AreMarked l.script l.side l.domain (take l.entry-index l.entries) l.fn.hits l.hits
