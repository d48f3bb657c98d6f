use Rattle.std.proofs.Common.{◌≡◌, ◌<◌, List, length, remove, true, HoldsAt, sym, subst, ap, ◌∙◌}
use Rattle.std.specs.List.{position_or_len}
use Rattle.arrayvec.specs.ArrayVec.{ArrayVec}
use Rattle.group_tree.specs.Indices.{IsIndex}
use Rattle.group_tree.specs.Keys.{by_directory, by_gid}
use Rattle.group_tree.specs.Lists.{GroupList, has_group, without}
use Rattle.group_tree.specs.Records.{has_gid}
use Rattle.group_tree.specs.declared.group.Group.{Group}
use Rattle.group_tree.specs.declared.index.Entry.{Entry}
use Rattle.group_tree.proofs.Counts.{IsCountOf-without}
use Rattle.group_tree.proofs.Edits.{IsTree-without, remove-without}
use Rattle.group_tree.proofs.Lookups.{HoldsAt-position_or_len, position_or_len-within}
use Rattle.group_tree.proofs.groups.Groups.remove.Goals as goal

pub take_out-gone-requires-clause-within : goal.take_out-gone-requires-clause-within
take_out-gone-requires-clause-within c =
    let gs = c.self.inside.records.value.items in
    let is_place : c.place_of-place.result ≡ position_or_len (has_gid c.args.gid) gs = c.place_of-place.ensures ∙ ap (λ (t : GroupList). position_or_len (has_gid c.args.gid) t.groups) (sym c.self.view_is) in
    let some : has_group c.args.gid gs ≡ true = rw (← c.self.view_is) at c.requires.there in
    let within : c.place_of-place.result < length gs = rw is_place (position_or_len-within (has_gid c.args.gid) gs some) in
    rw (c.deref_mut-3.ensures.value) within

pub take_out-gone-requires-clause-there : goal.take_out-gone-requires-clause-there
take_out-gone-requires-clause-there c =
    let gs = c.self.inside.records.value.items in
    let is_place : c.place_of-place.result ≡ position_or_len (has_gid c.args.gid) gs = c.place_of-place.ensures ∙ ap (λ (t : GroupList). position_or_len (has_gid c.args.gid) t.groups) (sym c.self.view_is) in
    let some : has_group c.args.gid gs ≡ true = rw (← c.self.view_is) at c.requires.there in
    let there : HoldsAt (λ (x : Group). has_gid c.args.gid x ≡ true) gs c.place_of-place.result = rw is_place (HoldsAt-position_or_len (has_gid c.args.gid) gs some) in
    rw (c.deref_mut-3.ensures.value) there

pub take_out-gone-requires-clause-gids_differ : goal.take_out-gone-requires-clause-gids_differ
take_out-gone-requires-clause-gids_differ c = rw c.deref_mut-3.ensures.value c.self.invariant.counted.tree.gids_differ

pub invariant_of-self : goal.invariant_of-self
invariant_of-self c =
    let gid = c.args.gid in
    let gs = c.self.inside.records.value.items in
    let place = c.place_of-place.result in
    let was = c.self.invariant.counted in
    let is_place : place ≡ position_or_len (has_gid gid) gs = c.place_of-place.ensures ∙ ap (λ (t : GroupList). position_or_len (has_gid gid) t.groups) (sym c.self.view_is) in
    let some : has_group gid gs ≡ true = rw (← c.self.view_is) at c.requires.there in
    let within : place < length gs = rw is_place (position_or_len-within (has_gid gid) gs some) in
    let there : HoldsAt (λ (g : Group). has_gid gid g ≡ true) gs place = rw is_place (HoldsAt-position_or_len (has_gid gid) gs some) in
    let same : remove gs place ≡ without gid gs = remove-without gid gs place c.take_out-gone.result within (there c.take_out-gone.result) was.tree.gids_differ in
    let old = rw c.deref_mut-3.ensures.value at c.take_out-gone.ensures.old in
    let by_gids = c.leave.ensures by_gid gs (subst (λ (v : ArrayVec Entry). IsIndex by_gid gs v.items) (sym c.deref_mut.ensures.value) c.self.invariant.by_gids) within in
    let by_names = c.leave-2.ensures by_directory gs (subst (λ (v : ArrayVec Entry). IsIndex by_directory gs v.items) (sym c.deref_mut-2.ensures.value) c.self.invariant.by_names) within in
    rw (c.take_out-gone.ensures.without, c.deref_mut-3.ensures.value) (record {
      counted = record {
        tree = IsTree-without gid gs c.requires.not_default was.tree;
        counted = IsCountOf-without gid c.take_out-gone.result gs c.self.inside.counts.domains c.remove.new.self.domains was.counted was.tree.gids_differ old c.remove.ensures.size c.remove.ensures.each;
      };
      by_gids = subst (λ (xs : List Group). IsIndex by_gid xs c.leave.new.entries.items) same by_gids;
      by_names = subst (λ (xs : List Group). IsIndex by_directory xs c.leave-2.new.entries.items) same by_names;
    })
