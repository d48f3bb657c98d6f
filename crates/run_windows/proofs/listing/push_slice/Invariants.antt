use Rattle.run_windows.proofs.SiteOrder.{site}
use Rattle.run_windows.specs.AllWindows.{AreWindowsBefore}
use Rattle.run_windows.proofs.listing.push_slice.Given as goal

abbrev pub invariant-loop-from : goal.invariant-loop-from
invariant-loop-from l = AreWindowsBefore l.timeline.run.script.now l.timeline.run.journals.now (site l.domain l.slice l.from 0) l.windows.items
