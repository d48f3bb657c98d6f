use Rattle.std.proofs.Common.{◌≡◌, ◌<◌, [], ◌∷◌, ◌++◌, false, length, sym, subst, ap, ◌∙◌, arith}
use Rattle.arrayvec.specs.ArrayVec.{ArrayVec}
use Rattle.group_tree.specs.Indices.{IsIndexBut}
use Rattle.group_tree.specs.Keys.{by_directory, by_gid}
use Rattle.group_tree.specs.Lists.{has_group}
use Rattle.group_tree.specs.declared.group.Group.{Group}
use Rattle.group_tree.specs.declared.index.Entry.{Entry}
use Rattle.group_tree.proofs.Counts.{IsCountOf-inserted}
use Rattle.group_tree.proofs.Edits.{IsTree-inserted}
use Rattle.group_tree.proofs.Indices.{HoldsAt-last, IsIndexBut-last}
use Rattle.group_tree.proofs.groups.Groups.insert.Goals as goal

pub enter-requires : goal.enter-requires
enter-requires c =
    let place : length c.self.inside.records.value.items < 328 = rw (← c.self.view_is) at c.requires.place in
    rw c.deref_mut.ensures.value (omega (arith, place, c.self.invariant.by_gids.size))

pub enter-requires-2 : goal.enter-requires-2
enter-requires-2 c =
    let place : length c.self.inside.records.value.items < 328 = rw (← c.self.view_is) at c.requires.place in
    rw c.deref_mut-2.ensures.value (omega (arith, place, c.self.invariant.by_names.size))

pub invariant_of-self : goal.invariant_of-self
invariant_of-self c =
    let g = c.args.g in
    let gs = c.self.inside.records.value.items in
    let fresh : has_group g.gid gs ≡ false = rw (← c.self.view_is) at c.requires.fresh in
    let place : length gs < 328 = rw (← c.self.view_is) at c.requires.place in
    let was = c.self.invariant.counted in
    let last : c.len-place.result ≡ length gs = c.len-place.ensures.value ∙ ap (λ (v : ArrayVec Group). length v.items) c.deref.ensures in
    let with_gid = subst (λ (v : ArrayVec Entry). IsIndexBut c.len-place.result by_gid (gs ++ g ∷ []) v.items) (sym c.deref_mut.ensures.value) (IsIndexBut-last by_gid gs _ g c.len-place.result last c.self.invariant.by_gids) in
    let with_name = subst (λ (v : ArrayVec Entry). IsIndexBut c.len-place.result by_directory (gs ++ g ∷ []) v.items) (sym c.deref_mut-2.ensures.value) (IsIndexBut-last by_directory gs _ g c.len-place.result last c.self.invariant.by_names) in
    let tree = IsTree-inserted g gs fresh place was.tree in
    rw (c.push.ensures.items ∙ ap (λ (v : ArrayVec Group). v.items ++ g ∷ []) c.deref_mut-3.ensures.value) (record {
      counted = record {
        tree = tree;
        counted = IsCountOf-inserted g gs c.self.inside.counts.domains c.add.new.self.domains was.counted tree.fits c.add.ensures.size c.add.ensures.each;
      };
      by_gids = c.enter.ensures by_gid (gs ++ g ∷ []) with_gid (HoldsAt-last by_gid gs g c.len-place.result c.of_gid.result last c.of_gid.ensures);
      by_names = c.enter-2.ensures by_directory (gs ++ g ∷ []) with_name (HoldsAt-last by_directory gs g c.len-place.result c.of_directory.result last c.of_directory.ensures);
    })
