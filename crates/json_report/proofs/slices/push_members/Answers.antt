use Rattle.std.proofs.Common.{ℕ, List, false, true, [], ◌∷◌, ◌++◌, ◌/◌, ◌%◌, refl, ap, ◌∙◌}
use Rattle.std.specs.Prelude.{codes}
use Rattle.json_report.proofs.laws.Objects.{members_told-then}
use Rattle.json_report.proofs.laws.Pieces.{members_told-one}
use Rattle.report_pieces.proofs.laws.Results.{OnOk-map}
use Rattle.json_report.specs.Pieces.{members_told}
use Rattle.json_report.specs.SliceValues.{entry_values}
use Rattle.json_report.specs.Values.{array_of, whole}
use Rattle.machine.specs.Maps.{parameters_of}
use Rattle.serde_json.specs.Data.{Data}
use Rattle.json_report.proofs.slices.push_members.Goals as goal

pub returns : goal.returns
returns c =
    let i = c.args.i in
    let slices = c.args.machine.now.slices in
    let m_domain : List ℕ × Data = (codes "domain", whole (i / slices)) in
    let m_entries : List ℕ × Data = (codes "entries", array_of (entry_values (parameters_of c.args.machine.now) 0 c.args.entries.now)) in
    let m_slice : List ℕ × Data = (codes "slice", whole (i % slices)) in
    let first = c.in_ok-push_number.ensures ∙ ap (λ n. c.args.report.now ++ members_told false ((codes "domain", whole n) ∷ [])) (c.from.ensures ∙ ap (λ s. i / s) c.from-slices.ensures) in
    let entries = members_told-one true (codes "entries") (m_entries.1) c.push_number.new.report c.push_key.new.report c.push_entries.new.report c.in_ok-push_key.ensures c.in_ok-push_entries.ensures in
    let both = members_told-then m_domain [] (m_entries ∷ []) (m_entries ∷ []) c.args.report.now c.push_number.new.report c.push_entries.new.report refl first entries in
    OnOk-map c.push_number-2.result (λ last. members_told-then m_domain (m_entries ∷ []) (m_slice ∷ []) (m_entries ∷ m_slice ∷ []) c.args.report.now c.push_entries.new.report c.push_number-2.new.report refl both
    (last ∙ ap (λ n. c.push_entries.new.report ++ members_told true ((codes "slice", whole n) ∷ [])) (c.from-2.ensures ∙ ap (λ s. i % s) c.from-slices.ensures))) c.push_number-2.ensures
