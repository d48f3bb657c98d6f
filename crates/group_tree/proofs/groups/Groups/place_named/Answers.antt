use Rattle.std.proofs.Common.{List, subst, sym, ap, ◌∙◌}
use Rattle.std.specs.List.{position_or_len}
use Rattle.arrayvec.specs.ArrayVec.{ArrayVec}
use Rattle.group_tree.specs.Indices.{IsIndex}
use Rattle.group_tree.specs.Keys.{by_directory, is_key}
use Rattle.group_tree.specs.Lists.{GroupList}
use Rattle.group_tree.specs.declared.group.Group.{Group}
use Rattle.group_tree.specs.declared.index.Entry.{Entry}
use Rattle.group_tree.proofs.groups.Groups.place_named.Goals as goal

pub returns : goal.returns
returns c =
    let groups = c.self.inside.records.value.items in
    let index : IsIndex by_directory groups c.as_slice.result.now = subst (λ (xs : List Entry). IsIndex by_directory groups xs) (sym (c.as_slice.ensures.value ∙ ap (λ (v : ArrayVec Entry). v.items) c.deref.ensures)) c.self.invariant.by_names in
    c.first_place.ensures by_directory groups index ∙ ap (λ (t : GroupList). position_or_len (λ (g : Group). is_key c.args.key (by_directory g)) t.groups) c.self.view_is
