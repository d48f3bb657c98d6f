use Rattle.std.proofs.Common.{◌++◌, ap, map, true, ◌∷◌, ◌∙◌}
use Rattle.std.proofs.lemmas.List.{append_assoc}
use Rattle.std.specs.Prelude.{codes}
use Rattle.json_report.proofs.laws.Pieces.{members_told-array}
use Rattle.report_pieces.proofs.laws.Results.{OnOk-map}
use Rattle.json_report.specs.Groups.{group_value}
use Rattle.json_report.specs.Pieces.{items_told}
use Rattle.run_replay.specs.Made.{control_of, default_control}
use Rattle.serde_json.specs.Written.{compact_text}
use Rattle.json_report.proofs.json_groups.push_groups.Goals as goal

pub returns : goal.returns
returns c =
    let f = group_value c.args.run.now.script.now c.args.run.now.journals.now in
    let g = control_of c.args.run.now.script.now.names in
    let first = compact_text (f default_control) in
    let items = c.in_ok-push_made.ensures ∙ (ap (λ t. t ++ items_told true (map f (map g c.args.made.now))) c.in_ok-push_default_group.ensures ∙ append_assoc c.push.new.self first (items_told true (map f (map g c.args.made.now)))) in
    let items_all = items ∙ ap (λ made. c.push.new.self ++ (first ++ items_told true (map f (map g made)))) c.requires.made in
    OnOk-map c.push-2.result (λ last. members_told-array true (codes "groups") (f default_control ∷ map f (map g _)) c.args.report.now c.push_key.new.report c.push.new.self c.push_made.new.report c.push-2.new.self c.in_ok-push_key.ensures
    (c.in_ok-push.ensures ∙ ap (λ t. c.push_key.new.report ++ t) c.as_slice.ensures) items_all (last ∙ ap (λ t. c.push_made.new.report ++ t) c.as_slice-2.ensures)) c.push-2.ensures
