use Rattle.std.proofs.Common.{◌+◌, ◌++◌, map, ap, ◌∙◌, sym}
use Rattle.std.proofs.lemmas.List.{append_assoc}
use Rattle.std.specs.List.{range_with_len}
use Rattle.json_report.proofs.CountedDomains.{domain_of_counts-counted}
use Rattle.json_report.proofs.laws.Pieces.{items_told-next}
use Rattle.json_report.proofs.Positions.{length-map_range, map-range_suc}
use Rattle.json_report.specs.Domains.{domain_value}
use Rattle.machine.specs.Maps.{parameters_of}
use Rattle.machine.specs.declared.parameters.Parameters.{Parameters}
use Rattle.serde_json.specs.Written.{compact_text}
use Rattle.json_report.proofs.domains.push_items.Goals as goal

pub push_domain-requires : goal.push_domain-requires
push_domain-requires c =
    let lines = c.requires.domains.lines c.loop-domain.domain c.domain-lines.result.now c.domain-lines.ensures in
    lines.rmids ∙ ap (λ (p : Parameters). p.rmids) (sym c.machine-in-loop-domain.ensures)

pub loop-domain-preserved : goal.loop-domain-preserved
loop-domain-preserved c =
    let script = c.args.run.now.script.now in
    let j = c.args.run.now.journals.now in
    let f = domain_value script j in
    let domain = c.loop-domain.domain in
    let told = c.domain-lines.result.now in
    let same = domain_of_counts-counted script j domain told (parameters_of c.machine-in-loop-domain.result.now) c.machine-in-loop-domain.ensures (c.requires.domains.lines domain told c.domain-lines.ensures) in
    items_told-next (map f (range_with_len 0 domain)) (map f (range_with_len 0 (domain + 1))) (f domain) domain c.args.report.now c.loop-domain.report c.push_domain.new.report (length-map_range f domain) (map-range_suc f domain)
    c.loop-domain.invariant (c.in_ok-push_domain.ensures ∙ (ap (λ d. c.push_comma.new.report ++ compact_text d) same ∙ (ap (λ t. t ++ compact_text (f domain)) c.in_ok-push_comma.ensures ∙ append_assoc c.loop-domain.report _ _)))
