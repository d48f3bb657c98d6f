use Rattle.std.proofs.Common.{◌++◌, ◌∙◌, ap, sym}
use Rattle.lists.proofs.Ranges.{flat_map-range_suc}
use Rattle.machine.specs.Maps.{parameters_of}
use Rattle.machine.specs.declared.parameters.Parameters.{Parameters}
use Rattle.run_counts.specs.DomainLines.{lines_in}
use Rattle.run_counts.specs.Domains.{rmid_lines, valid_lines}
use Rattle.report_text.proofs.DomainCounts.{domain_told-same}
use Rattle.report_text.specs.Domains.{domain_line}
use Rattle.report_text.proofs.domains.push_domains.Goals as goal

pub push_domain-requires : goal.push_domain-requires
push_domain-requires c =
    let lines = c.requires.domains.lines c.loop-domain.domain c.domain-lines.result.now c.domain-lines.ensures in
    lines.rmids ∙ ap (λ (p : Parameters). p.rmids) (sym c.machine-in-loop-domain.ensures)

pub loop-domain-preserved : goal.loop-domain-preserved
loop-domain-preserved c =
    let script = c.args.script.now in
    let j = c.args.journals.now in
    let domain = c.loop-domain.domain in
    let told = c.domain-lines.result.now in
    let lines = c.requires.domains.lines domain told c.domain-lines.ensures in
    flat_map-range_suc (domain_line script j) domain c.args.report.now c.loop-domain.report c.push_domain.new.report c.loop-domain.invariant
    (c.in_ok-push_domain.ensures ∙ ap (λ t. c.loop-domain.report ++ t)
    (domain_told-same (parameters_of c.machine-in-loop-domain.result.now) script.machine domain told.valid (valid_lines script j domain) (lines_in told) (rmid_lines script j domain) c.machine-in-loop-domain.ensures lines.valid lines.lines))
