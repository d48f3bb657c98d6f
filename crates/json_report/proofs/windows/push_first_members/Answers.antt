use Rattle.std.proofs.Common.{false, true, [], ◌∷◌, ◌++◌, ap, ◌∙◌}
use Rattle.std.specs.Prelude.{codes}
use Rattle.json_report.proofs.laws.Objects.{members_told-five}
use Rattle.report_pieces.proofs.laws.Results.{OnOk-map}
use Rattle.json_report.specs.Pieces.{members_told}
use Rattle.json_report.specs.Values.{whole}
use Rattle.json_report.proofs.windows.push_first_members.Goals as goal

pub returns : goal.returns
returns c =
    let w = c.args.window.now in
    OnOk-map c.push_number-5.result (λ last. members_told-five false (codes "accesses", whole w.accesses) (codes "covered", whole w.covered) (codes "covered_hits", whole w.covered_hits) (codes "domain", whole w.domain) (codes "from", whole w.from) c.args.report.now c.push_number.new.report c.push_number-2.new.report c.push_number-3.new.report c.push_number-4.new.report c.push_number-5.new.report c.in_ok-push_number.ensures c.in_ok-push_number-2.ensures c.in_ok-push_number-3.ensures (c.in_ok-push_number-4.ensures ∙ ap (λ n. c.push_number-3.new.report ++ members_told true ((codes "domain", whole n) ∷ [])) c.from.ensures) (last ∙ ap (λ n. c.push_number-4.new.report ++ members_told true ((codes "from", whole n) ∷ [])) c.from-2.ensures)) c.push_number-5.ensures
