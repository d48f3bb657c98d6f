use Rattle.run_windows.proofs.KeptStays.{gids}
use Rattle.run_windows.proofs.RisingGids.{first_past}
use Rattle.run_windows.proofs.SiteOrder.{site}
use Rattle.run_windows.specs.AllWindows.{AreWindowsBefore}
use Rattle.run_windows.proofs.opened.push_opened.Given as goal

abbrev pub invariant-loop-i : goal.invariant-loop-i
invariant-loop-i l = AreWindowsBefore l.run.script.now l.run.journals.now (site l.opening.domain l.opening.slice l.opening.from (first_past (gids l.stays) l.i)) l.windows.items
