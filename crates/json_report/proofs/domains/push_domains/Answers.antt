use Rattle.std.proofs.Common.{◌++◌, ap, ◌∙◌}
use Rattle.std.specs.Prelude.{codes}
use Rattle.json_report.proofs.laws.Pieces.{members_told-array}
use Rattle.report_pieces.proofs.laws.Results.{OnOk-map}
use Rattle.json_report.specs.Domains.{domain_values}
use Rattle.json_report.proofs.domains.push_domains.Goals as goal

pub returns : goal.returns
returns c =
    OnOk-map c.push-2.result (λ last. members_told-array c.args.later (codes "domains") (domain_values c.args.run.now.script.now c.args.run.now.journals.now) c.args.report.now c.push_key.new.report c.push.new.self c.push_items.new.report c.push-2.new.self
    c.in_ok-push_key.ensures (c.in_ok-push.ensures ∙ ap (λ t. c.push_key.new.report ++ t) c.as_slice.ensures) c.in_ok-push_items.ensures (last ∙ ap (λ t. c.push_items.new.report ++ t) c.as_slice-2.ensures)) c.push-2.ensures
