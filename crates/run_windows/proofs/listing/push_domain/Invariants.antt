use Rattle.run_windows.proofs.SiteOrder.{site}
use Rattle.run_windows.specs.AllWindows.{AreWindowsBefore}
use Rattle.run_windows.proofs.listing.push_domain.Given as goal

abbrev pub invariant-loop-slice : goal.invariant-loop-slice
invariant-loop-slice l = AreWindowsBefore l.timeline.run.script.now l.timeline.run.journals.now (site l.domain l.slice 0 0) l.windows.items
