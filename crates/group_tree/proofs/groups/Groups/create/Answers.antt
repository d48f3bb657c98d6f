use Rattle.std.proofs.Common.{◌≡◌, ◌∷◌, ◌++◌, [], List, sym, subst, ap, ◌∙◌}
use Rattle.arrayvec.specs.ArrayVec.{ArrayVec}
use Rattle.group_tree.specs.Counts.{IsCountedTree}
use Rattle.group_tree.specs.Keys.{by_directory, by_gid}
use Rattle.group_tree.specs.declared.group.Group.{Group}
use Rattle.group_tree.proofs.Counts.{IsCountOf-one}
use Rattle.group_tree.proofs.Edits.{IsTree-one}
use Rattle.group_tree.proofs.Indices.{IsIndex-one}
use Rattle.group_tree.proofs.groups.Groups.create.Goals as goal

pub invariant_of-result : goal.invariant_of-result
invariant_of-result c =
    let g = c.default_group-first.result in
    let items : c.push.new.self.items ≡ g ∷ [] = c.push.ensures.items ∙ ap (λ (xs : List Group). xs ++ g ∷ []) (ap (λ (v : ArrayVec Group). v.items) (c.deref_mut.ensures.value ∙ c.in_ok-records.ensures.ok) ∙ c.new.ensures) in
    let counted : IsCountedTree c.push.new.self.items c.of_one.result.domains = subst (λ (xs : List Group). IsCountedTree xs c.of_one.result.domains) (sym items) (record {
      tree = IsTree-one g (ap (λ (x : Group). x.gid.0) c.default_group-first.ensures);
      counted = IsCountOf-one g c.of_one.result.domains c.of_one.ensures.size c.of_one.ensures.each;
    }) in
    record {
      counted = counted;
      by_gids = rw (items, c.in_ok-gids.ensures) (IsIndex-one by_gid g c.of_gid.result (sym c.of_gid.ensures));
      by_names = rw (items, c.in_ok-names.ensures) (IsIndex-one by_directory g c.of_directory.result (sym c.of_directory.ensures));
    }
