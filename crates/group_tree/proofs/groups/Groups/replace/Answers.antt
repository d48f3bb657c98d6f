use Rattle.std.proofs.Common.{◌≡◌, ◌<◌, List, length, get_or, set, true, HoldsAt, sym, subst, ap, ◌∙◌, arith}
use Rattle.std.specs.List.{position_or_len}
use Rattle.std.proofs.lemmas.Bool.{eqb-true}
use Rattle.group_tree.specs.Counts.{IsCountOf}
use Rattle.group_tree.specs.Indices.{IsIndex}
use Rattle.group_tree.specs.Keys.{by_directory, by_gid}
use Rattle.group_tree.specs.Lists.{GroupList, has_group, replaced, without}
use Rattle.group_tree.specs.Records.{has_gid}
use Rattle.group_tree.specs.declared.group.Group.{Group}
use Rattle.group_tree.proofs.Counts.{IsCountOf-replaced, IsCountOf-without}
use Rattle.group_tree.proofs.Edits.{IsTree-replaced, length-replaced, set-replaced}
use Rattle.group_tree.proofs.Indices.{IsIndex-set}
use Rattle.group_tree.proofs.Orders.{key_with}
use Rattle.group_tree.proofs.Lookups.{HoldsAt-position_or_len, position_or_len-within}
use Rattle.group_tree.proofs.groups.Groups.replace.Goals as goal

pub rename-requires-clause-within : goal.rename-requires-clause-within
rename-requires-clause-within c =
    let gs = c.self.inside.records.value.items in
    let is_place : c.place_of-place.result ≡ position_or_len (has_gid c.args.g.gid) gs = c.place_of-place.ensures ∙ ap (λ (t : GroupList). position_or_len (has_gid c.args.g.gid) t.groups) (sym c.self.view_is) in
    let some : has_group c.args.g.gid gs ≡ true = rw (← c.self.view_is) at c.requires in
    let within : c.place_of-place.result < length gs = rw is_place (position_or_len-within (has_gid c.args.g.gid) gs some) in
    rw (c.as_slice.ensures.value, c.deref.ensures) within

pub put-old-requires-clause-within : goal.put-old-requires-clause-within
put-old-requires-clause-within c =
    let gs = c.self.inside.records.value.items in
    let is_place : c.place_of-place.result ≡ position_or_len (has_gid c.args.g.gid) gs = c.place_of-place.ensures ∙ ap (λ (t : GroupList). position_or_len (has_gid c.args.g.gid) t.groups) (sym c.self.view_is) in
    let some : has_group c.args.g.gid gs ≡ true = rw (← c.self.view_is) at c.requires in
    let within : c.place_of-place.result < length gs = rw is_place (position_or_len-within (has_gid c.args.g.gid) gs some) in
    rw (c.deref_mut-2.ensures.value) within

pub put-old-requires-clause-there : goal.put-old-requires-clause-there
put-old-requires-clause-there c =
    let gs = c.self.inside.records.value.items in
    let is_place : c.place_of-place.result ≡ position_or_len (has_gid c.args.g.gid) gs = c.place_of-place.ensures ∙ ap (λ (t : GroupList). position_or_len (has_gid c.args.g.gid) t.groups) (sym c.self.view_is) in
    let some : has_group c.args.g.gid gs ≡ true = rw (← c.self.view_is) at c.requires in
    let there : HoldsAt (λ (x : Group). has_gid c.args.g.gid x ≡ true) gs c.place_of-place.result = rw is_place (HoldsAt-position_or_len (has_gid c.args.g.gid) gs some) in
    rw (c.deref_mut-2.ensures.value) there

pub put-old-requires-clause-gids_differ : goal.put-old-requires-clause-gids_differ
put-old-requires-clause-gids_differ c = rw c.deref_mut-2.ensures.value c.self.invariant.counted.tree.gids_differ

pub invariant_of-self : goal.invariant_of-self
invariant_of-self c =
    let g = c.args.g in
    let gs = c.self.inside.records.value.items in
    let place = c.place_of-place.result in
    let was = c.self.invariant.counted in
    let is_place : place ≡ position_or_len (has_gid g.gid) gs = c.place_of-place.ensures ∙ ap (λ (t : GroupList). position_or_len (has_gid g.gid) t.groups) (sym c.self.view_is) in
    let some : has_group g.gid gs ≡ true = rw (← c.self.view_is) at c.requires in
    let within : place < length gs = rw is_place (position_or_len-within (has_gid g.gid) gs some) in
    let there : HoldsAt (λ (x : Group). has_gid g.gid x ≡ true) gs place = rw is_place (HoldsAt-position_or_len (has_gid g.gid) gs some) in
    let same : set gs place g ≡ replaced g gs = set-replaced g gs place g within (there g) was.tree.gids_differ in
    let old = rw c.deref_mut-2.ensures.value at c.put-old.ensures.old in
    let gone : IsCountOf (without g.gid gs) c.remove.new.self.domains = IsCountOf-without g.gid c.put-old.result gs c.self.inside.counts.domains c.remove.new.self.domains was.counted was.tree.gids_differ old c.remove.ensures.size c.remove.ensures.each in
    let gid_kept : HoldsAt (λ (x : Group). by_gid x ≡ by_gid g) gs place = λ d. ap (key_with 0) (sym (eqb-true g.gid.0 (get_or gs place d).gid.0 (there d))) in
    let renamed : IsIndex by_directory (set gs place g) c.rename.new.entries.items = rw (c.as_slice.ensures.value, c.deref.ensures) at c.rename.ensures in
    rw (c.put-old.ensures.replaced, c.deref_mut-2.ensures.value) (record {
      counted = record {
        tree = IsTree-replaced g gs was.tree;
        counted = IsCountOf-replaced g c.put-old.result gs c.remove.new.self.domains c.add.new.self.domains gone was.tree.gids_differ old (omega (arith, length-replaced g gs, was.tree.fits)) c.add.ensures.size c.add.ensures.each;
      };
      by_gids = subst (λ (xs : List Group). IsIndex by_gid xs c.self.inside.gids.value.items) same (IsIndex-set place by_gid gs c.self.inside.gids.value.items g within gid_kept c.self.invariant.by_gids);
      by_names = subst (λ (xs : List Group). IsIndex by_directory xs c.rename.new.entries.items) same renamed;
    })
