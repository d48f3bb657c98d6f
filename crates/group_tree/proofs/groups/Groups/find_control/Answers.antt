use Rattle.std.proofs.Common.{sym, ap, ◌∙◌}
use Rattle.std.specs.List.{position_or_len, slice_get}
use Rattle.std.proofs.lemmas.List.Folds.{find_at}
use Rattle.group_tree.specs.Keys.{by_directory, control_key, is_key}
use Rattle.group_tree.specs.Records.{is_control_named}
use Rattle.group_tree.specs.declared.group.Group.{Group}
use Rattle.group_tree.specs.declared.key.Key.{Key}
use Rattle.group_tree.proofs.Lookups.{find-agree, is_key-control}
use Rattle.group_tree.proofs.groups.Groups.find_control.Goals as goal

pub returns : goal.returns
returns c =
    let groups = c.args.self.now.groups in
    let place = c.place_named.ensures ∙ ap (λ (key : Key). position_or_len (λ (g : Group). is_key key (by_directory g)) groups) c.of_control.ensures in
    c.at_place.ensures ∙ ap (slice_get groups) place ∙ sym (find_at (λ (g : Group). is_key (control_key c.args.name) (by_directory g)) groups) ∙ find-agree (λ (g : Group). is_key (control_key c.args.name) (by_directory g)) (is_control_named c.args.name) (is_key-control c.args.name) groups
