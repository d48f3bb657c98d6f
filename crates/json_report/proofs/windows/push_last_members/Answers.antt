use Rattle.std.proofs.Common.{true, [], ◌∷◌, ◌++◌, ap, ◌∙◌}
use Rattle.std.specs.Prelude.{codes}
use Rattle.json_report.proofs.laws.Objects.{members_told-five}
use Rattle.report_pieces.proofs.laws.Results.{OnOk-map}
use Rattle.json_report.specs.Pieces.{members_told}
use Rattle.json_report.specs.Values.{whole}
use Rattle.json_report.proofs.windows.push_last_members.Goals as goal

pub returns : goal.returns
returns c =
    let w = c.args.window.now in
    OnOk-map c.push_number-5.result (λ last. members_told-five true (codes "gid", whole w.gid.0) (codes "hits", whole w.hits) (codes "private", whole w.private) (codes "slice", whole w.slice) (codes "ways", whole w.ways) c.args.report.now c.push_number.new.report c.push_number-2.new.report c.push_number-3.new.report c.push_number-4.new.report c.push_number-5.new.report (c.in_ok-push_number.ensures ∙ ap (λ n. c.args.report.now ++ members_told true ((codes "gid", whole n) ∷ [])) c.from.ensures) c.in_ok-push_number-2.ensures c.in_ok-push_number-3.ensures (c.in_ok-push_number-4.ensures ∙ ap (λ n. c.push_number-3.new.report ++ members_told true ((codes "slice", whole n) ∷ [])) c.from-2.ensures) (last ∙ ap (λ n. c.push_number-4.new.report ++ members_told true ((codes "ways", whole n) ∷ [])) c.from-3.ensures)) c.push_number-5.ensures
