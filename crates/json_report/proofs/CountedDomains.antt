-- The value of a domain whose lines were counted.
use Rattle.std.proofs.Common.{◌≡◌, ℕ, ◌*◌, List, ap, ◌∙◌}
use Rattle.json_report.proofs.Positions.{rmid_values-same}
use Rattle.json_report.specs.Domains.{domain_of_counts, domain_value, rmid_values}
use Rattle.machine.specs.declared.parameters.Parameters.{Parameters}
use Rattle.run_counts.specs.DomainLines.{DomainLinesValue, IsOfDomain, lines_in}
use Rattle.run_counts.specs.Domains.{rmid_lines}
use Rattle.run_law.specs.Journals.{JournalsValue}
use Rattle.script_ops.specs.Values.{ScriptValue}
use Rattle.serde_json.specs.Data.{Data}

-- it is that of the domain
pub domain_of_counts-counted : (script : ScriptValue) (j : JournalsValue) (domain : ℕ) (o : DomainLinesValue) (m : Parameters) → m ≡ script.machine → IsOfDomain script j domain o
    → domain_of_counts domain (m.sets * m.ways) (rmid_values m.rmids (lines_in o)) o.valid ≡ domain_value script j domain
domain_of_counts-counted script j domain o m is counted =
    ap (λ (p : Parameters). domain_of_counts domain (p.sets * p.ways) (rmid_values p.rmids (lines_in o)) o.valid) is
    ∙ (ap (λ (rmids : List Data). domain_of_counts domain (script.machine.sets * script.machine.ways) rmids o.valid) (rmid_values-same script.machine.rmids (lines_in o) (rmid_lines script j domain) counted.lines)
    ∙ ap (λ (n : ℕ). domain_of_counts domain (script.machine.sets * script.machine.ways) (rmid_values script.machine.rmids (rmid_lines script j domain)) n) counted.valid)
