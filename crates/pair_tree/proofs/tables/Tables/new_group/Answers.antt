use Rattle.std.proofs.Common.{◌≡◌, Some, refl, sym, ap, ◌∙◌, unwrap_or}
use Rattle.pair_law.specs.Others.{free_class}
use Rattle.pair_law.specs.State.{has_name}
use Rattle.pair_tree.proofs.Elements.{is_some-found}
use Rattle.pair_tree.proofs.NewGroups.{refusal-exists, refusal-first, refusal-no_class, refusal-second, refusal-space}
use Rattle.pair_tree.specs.Tables.{state_of}
use Rattle.rc_base.specs.declared.replies.Why.TheVariants.{Exists, NoSpace, OutOfClosids}
use Rattle.tree_law.specs.Refusals.{plain}
use Rattle.pair_tree.proofs.tables.Tables.new_group.Goals as goal

pub returns-then-is_some : goal.returns-then-is_some
returns-then-is_some c =
    let s = state_of c.args.self.now in
    let found = rw c.deref.ensures.value at c.place_named.ensures in
    let there = sym (is_some-found (has_name (Some c.args.name.now)) s.groups c.place_named.result found) ∙ sym c.is_some.ensures ∙ c.if-is_some.true in
    (plain Exists, refusal-exists c.args.m.now s c.args.name.now there, c.refused.ensures)

pub returns-in_default : goal.returns-in_default
returns-in_default c =
    let s = state_of c.args.self.now in
    let found = rw c.deref.ensures.value at c.place_named.ensures in
    let new = sym (is_some-found (has_name (Some c.args.name.now)) s.groups c.place_named.result found) ∙ sym c.is_some.ensures ∙ c.if-is_some.false in
    (plain OutOfClosids, refusal-no_class c.args.m.now s c.args.name.now new (sym c.in_default.ensures), c.refused-in_default.ensures)

pub returns-in-Err : goal.returns-in-Err
returns-in-Err c =
    let s = state_of c.args.self.now in
    let found = rw c.deref.ensures.value at c.place_named.ensures in
    let new = sym (is_some-found (has_name (Some c.args.name.now)) s.groups c.place_named.result found) ∙ sym c.is_some.ensures ∙ c.if-is_some.false in
    (record { why = NoSpace; arg = c.in-Err.domain }, refusal-first c.args.m.now s c.args.name.now new c.in-Some.class (sym c.in-Some.ensures) c.in-Err.domain c.in-Err.ensures, rw c.from.ensures at c.refused-in-Err.ensures)

pub returns-in-Err-new_masks : goal.returns-in-Err-new_masks
returns-in-Err-new_masks c =
    let s = state_of c.args.self.now in
    let found = rw c.deref.ensures.value at c.place_named.ensures in
    let new = sym (is_some-found (has_name (Some c.args.name.now)) s.groups c.place_named.result found) ∙ sym c.is_some.ensures ∙ c.if-is_some.false in
    (record { why = NoSpace; arg = c.in-Err-new_masks.domain }, refusal-second c.args.m.now s c.args.name.now new c.in-Some.class (sym c.in-Some.ensures) c.in-Err-new_masks.domain c.in-Ok.ensures.0 c.in-Err-new_masks.ensures, rw c.from-in-Err-new_masks.ensures at c.refused-in-Err-new_masks.ensures)

pub returns : goal.returns
returns c =
    let s = state_of c.args.self.now in
    let found = rw c.deref.ensures.value at c.place_named.ensures in
    let new = sym (is_some-found (has_name (Some c.args.name.now)) s.groups c.place_named.result found) ∙ sym c.is_some.ensures ∙ c.if-is_some.false in
    let class : c.in-Some.class ≡ unwrap_or (free_class c.args.m.now s) 0 = ap (λ o. unwrap_or o 0) c.in-Some.ensures in
    (refusal-space c.args.m.now s c.args.name.now new c.in-Some.class (sym c.in-Some.ensures) c.in-Ok.ensures.0 c.in-Ok-new_masks.ensures.0, rw (c.new.ensures, class, c.in-Ok.ensures.1, c.in-Ok-new_masks.ensures.1) refl)
