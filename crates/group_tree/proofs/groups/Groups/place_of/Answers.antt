use Rattle.std.proofs.Common.{List, subst, sym, ap, ◌∙◌}
use Rattle.std.specs.List.{position_or_len}
use Rattle.arrayvec.specs.ArrayVec.{ArrayVec}
use Rattle.group_tree.specs.Indices.{IsIndex}
use Rattle.group_tree.specs.Keys.{by_gid, is_key}
use Rattle.group_tree.specs.Lists.{GroupList}
use Rattle.group_tree.specs.Records.{has_gid}
use Rattle.group_tree.specs.declared.group.Group.{Group}
use Rattle.group_tree.specs.declared.index.Entry.{Entry}
use Rattle.group_tree.specs.declared.key.Key.{Key}
use Rattle.group_tree.proofs.groups.Groups.place_of.Goals as goal

pub returns : goal.returns
returns c =
    let groups = c.self.inside.records.value.items in
    let index : IsIndex by_gid groups c.as_slice.result.now = subst (λ (xs : List Entry). IsIndex by_gid groups xs) (sym (c.as_slice.ensures.value ∙ ap (λ (v : ArrayVec Entry). v.items) c.deref.ensures)) c.self.invariant.by_gids in
    c.first_place.ensures by_gid groups index ∙ ap (λ (key : Key). position_or_len (λ (g : Group). is_key key (by_gid g)) groups) c.of_gid.ensures ∙ ap (λ (t : GroupList). position_or_len (has_gid c.args.gid) t.groups) c.self.view_is
