use Rattle.std.proofs.Common.{true, [], ◌∷◌, ◌++◌, ap, ◌∙◌}
use Rattle.std.specs.Prelude.{codes}
use Rattle.json_report.proofs.GroupTexts.{group_of_counts-parts}
use Rattle.report_pieces.proofs.laws.Results.{OnOk-map}
use Rattle.json_report.specs.Pieces.{members_told}
use Rattle.json_report.specs.Values.{whole}
use Rattle.path_names.specs.PathTexts.{path_text}
use Rattle.json_report.proofs.groups.push_group.Goals as goal

pub returns : goal.returns
returns c =
    OnOk-map c.push-2.result (λ last. group_of_counts-parts c.args.gid (path_text c.args.names.now c.args.path) c.args.counts c.args.report.now c.push.new.self c.push_number.new.report c.push_number-2.new.report c.push_number-3.new.report
    c.push_number-4.new.report c.push_path_member.new.report c.push-2.new.self (c.in_ok-push.ensures ∙ ap (λ t. c.args.report.now ++ t) c.as_slice.ensures) c.in_ok-push_number.ensures (c.in_ok-push_number-2.ensures ∙ ap (λ n. c.push_number.new.report ++ members_told true ((codes "gid", whole n) ∷ [])) c.from.ensures) c.in_ok-push_number-3.ensures
    c.in_ok-push_number-4.ensures c.in_ok-push_path_member.ensures (last ∙ ap (λ t. c.push_path_member.new.report ++ t) c.as_slice-2.ensures)) c.push-2.ensures
