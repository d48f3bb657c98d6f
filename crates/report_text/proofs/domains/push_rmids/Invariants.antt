use Rattle.std.proofs.Common.{◌≡◌, ◌++◌}
use Rattle.run_counts.specs.DomainLines.{lines_in}
use Rattle.report_text.specs.Domains.{rmids_told}
use Rattle.report_text.proofs.domains.push_rmids.Given as goal

abbrev pub invariant-loop-rmid : goal.invariant-loop-rmid
invariant-loop-rmid l = l.report ≡ l.initial.report ++ rmids_told l.rmid (lines_in l.lines)
