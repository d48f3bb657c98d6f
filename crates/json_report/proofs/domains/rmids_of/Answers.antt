use Rattle.std.proofs.Common.{ℕ, List, ◌++◌, ap, ◌∙◌, sym}
use Rattle.json_report.proofs.Positions.{rmid_values-suc}
use Rattle.json_report.specs.Domains.{rmid_value, rmid_values}
use Rattle.run_counts.specs.DomainLines.{lines_in}
use Rattle.serde_json.specs.Data.{Data}
use Rattle.json_report.proofs.domains.rmids_of.Goals as goal

pub loop-rmid-preserved : goal.loop-rmid-preserved
loop-rmid-preserved c =
    let told = lines_in c.args.lines.now in
    let rmid = c.loop-rmid.rmid in
    c.in_ok-add_rmid.ensures
    ∙ (ap (λ (all : List Data). all ++ rmid_value rmid c.lines.result) c.loop-rmid.invariant ∙ (ap (λ (n : ℕ). rmid_values rmid told ++ rmid_value rmid n) c.lines.ensures ∙ sym (rmid_values-suc rmid told)))
