use Rattle.std.proofs.Common.{◌≡◌, map}
use Rattle.json_report.specs.Domains.{rmid_values}
use Rattle.run_counts.specs.DomainLines.{lines_in}
use Rattle.serde_json.specs.View.{view}
use Rattle.json_report.proofs.domains.rmids_of.Given as goal

abbrev pub invariant-loop-rmid : goal.invariant-loop-rmid
invariant-loop-rmid l = map view l.all.items ≡ rmid_values l.rmid (lines_in l.lines)
