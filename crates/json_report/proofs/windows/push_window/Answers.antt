use Rattle.std.proofs.Common.{◌++◌, refl, ap, ◌∙◌}
use Rattle.std.proofs.lemmas.List.{append_assoc}
use Rattle.std.specs.Prelude.{codes}
use Rattle.json_report.proofs.laws.Objects.{compact_text-members, members_told-then}
use Rattle.report_pieces.proofs.laws.Results.{OnOk-map}
use Rattle.json_report.specs.Values.{object_of, whole}
use Rattle.json_report.specs.WindowValues.{first_members, last_members, more_members, window_value}
use Rattle.serde_json.specs.Written.{comma_if, compact_text}
use Rattle.json_report.proofs.windows.push_window.Goals as goal

pub returns : goal.returns
unfolding window_value
returns c =
    let w = c.args.window.now in
    let members = first_members w ++ last_members w in
    let told = members_told-then (codes "accesses", whole w.accesses) (more_members w) (last_members w) (more_members w ++ last_members w) c.push.new.self c.push_first_members.new.report c.push_last_members.new.report refl c.in_ok-push_first_members.ensures c.in_ok-push_last_members.ensures in
    OnOk-map c.push-2.result (λ last. compact_text-members members c.push_comma.new.report c.push.new.self c.push_last_members.new.report c.push-2.new.self (c.in_ok-push.ensures ∙ ap (λ t. c.push_comma.new.report ++ t) c.as_slice.ensures) told
    (last ∙ ap (λ t. c.push_last_members.new.report ++ t) c.as_slice-2.ensures)
    ∙ (ap (λ t. t ++ compact_text (object_of members)) c.in_ok-push_comma.ensures ∙ append_assoc c.args.report.now (comma_if c.args.later) (compact_text (object_of members)))) c.push-2.ensures
