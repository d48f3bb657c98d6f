use Rattle.std.proofs.Common.{false, ◌++◌, ap, ◌∙◌}
use Rattle.std.proofs.lemmas.List.{append_assoc}
use Rattle.std.specs.Prelude.{nat_lt}
use Rattle.json_report.proofs.laws.Objects.{compact_text-members}
use Rattle.report_pieces.proofs.laws.Results.{OnOk-map}
use Rattle.json_report.specs.Pieces.{members_told}
use Rattle.json_report.specs.SliceValues.{slice_members, slice_value}
use Rattle.json_report.specs.Values.{object_of}
use Rattle.run_law.specs.Journals.{slice_at}
use Rattle.serde_json.specs.Written.{comma_if, compact_text}
use Rattle.json_report.proofs.slices.push_slice.Goals as goal

pub returns : goal.returns
unfolding slice_value
returns c =
    let m = c.args.script.now.machine in
    let i = c.args.i in
    let members = slice_members m i (slice_at c.args.journals.now i) in
    let told = c.in_ok-push_members.ensures ∙ (ap (λ p. c.push.new.self ++ members_told false (slice_members p i c.slice-entries.result.now)) c.machine.ensures ∙ ap (λ es. c.push.new.self ++ members_told false (slice_members m i es)) c.slice-entries.ensures) in
    OnOk-map c.push-2.result (λ last. compact_text-members members c.push_comma.new.report c.push.new.self c.push_members.new.report c.push-2.new.self (c.in_ok-push.ensures ∙ ap (λ t. c.push_comma.new.report ++ t) c.as_slice.ensures) told
    (last ∙ ap (λ t. c.push_members.new.report ++ t) c.as_slice-2.ensures)
    ∙ (ap (λ t. t ++ compact_text (object_of members)) c.in_ok-push_comma.ensures ∙ append_assoc c.args.report.now (comma_if (nat_lt 0 i)) (compact_text (object_of members)))) c.push-2.ensures
