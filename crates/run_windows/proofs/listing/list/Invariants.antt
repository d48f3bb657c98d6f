use Rattle.run_windows.proofs.SiteOrder.{site}
use Rattle.run_windows.specs.AllWindows.{AreWindowsBefore}
use Rattle.run_windows.proofs.listing.list.Given as goal

abbrev pub invariant-loop-domain : goal.invariant-loop-domain
invariant-loop-domain l = AreWindowsBefore l.run.script.now l.run.journals.now (site l.domain 0 0 0) l.windows.items
