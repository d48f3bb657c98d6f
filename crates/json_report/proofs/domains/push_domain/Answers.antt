use Rattle.json_report.proofs.Floats.{has_float-counted}
use Rattle.run_counts.specs.DomainLines.{lines_in}
use Rattle.json_report.proofs.domains.push_domain.Goals as goal

pub push_value-requires : goal.push_value-requires
push_value-requires c = has_float-counted _ _ _ c.args.machine.now.rmids _ (lines_in c.args.lines.now) _ c.in_ok-value.ensures c.in_ok-rmids.ensures
