use Rattle.std.proofs.Common.{sym, ap, ◌∙◌}
use Rattle.std.specs.List.{slice_get}
use Rattle.std.proofs.lemmas.List.Folds.{find_at}
use Rattle.group_tree.specs.Records.{has_gid}
use Rattle.group_tree.proofs.Lookups.{is_some-list_any}
use Rattle.group_tree.proofs.groups.Groups.get.Goals as goal

pub returns-clause-found : goal.returns-clause-found
returns-clause-found c =
    let groups = c.args.self.now.groups in
    c.at_place.ensures ∙ ap (slice_get groups) c.place_of.ensures ∙ sym (find_at (has_gid c.args.gid) groups)

pub returns-clause-there : goal.returns-clause-there
returns-clause-there c =
    let groups = c.args.self.now.groups in
    is_some-list_any c.at_place.result (has_gid c.args.gid) groups (c.at_place.ensures ∙ ap (slice_get groups) c.place_of.ensures ∙ sym (find_at (has_gid c.args.gid) groups))
