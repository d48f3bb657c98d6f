use Rattle.std.proofs.Common.{◌+◌, ◌∙◌, List, ap, sym, subst, arith, take}
use Rattle.cache_core.specs.declared.entry.SliceEntry.{SliceEntry}
use Rattle.way_plans.specs.GroupItems.{item_of, items_among}
use Rattle.private_lru.specs.declared.item.Item.{Item}
use Rattle.way_plans.specs.Noted.{AddsItems}
use Rattle.way_plans.proofs.Lines.{filter_map-other, filter_map-use}
use Rattle.way_plans.proofs.Uses.{AddsItems-append}
use Rattle.way_curve.specs.IsCurve.{CurveValue}
use Rattle.way_plans.proofs.slice_lines.note_among.Goals as goal
use Rattle.way_plans.proofs.slice_lines.note_among.Goals.{in-Some, in_default}

pub loop-entry-preserved : goal.loop-entry-preserved
loop-entry-preserved c = elim c.match-item_of.branch [
  | in-Some w ↦
      let i = c.loop-entry.entry-index in
      let es = c.args.entries.now in
      let gid = c.args.gid.0 in
      let old = c.args.curve.now in
      let more = filter_map-use (λ (e : SliceEntry). item_of gid e.what) es i _ w.in-Some.item c.loop-entry-test.true (sym c.item_of.ensures ∙ w.in-Some.is) in
      let adds = AddsItems-append old c.loop-entry.curve w.note_item.new.curve _ _ c.loop-entry.invariant.items w.note_item.ensures.item in
      record {
        sets = ap (λ (v : CurveValue). v.sets) w.curve-is ∙ (w.note_item.ensures.sets ∙ c.loop-entry.invariant.sets);
        few = omega (arith, ap (λ (v : CurveValue). v.uses) w.curve-is, w.note_item.ensures.few, c.loop-entry.invariant.few);
        items = subst (λ (v : CurveValue). AddsItems old v (items_among gid (take (i + 1) es))) (sym w.curve-is) (subst (λ (l : List Item). AddsItems old w.note_item.new.curve l) (sym more) adds);
      }
  | in_default w ↦
      let i = c.loop-entry.entry-index in
      let es = c.args.entries.now in
      let gid = c.args.gid.0 in
      let old = c.args.curve.now in
      let same = filter_map-other (λ (e : SliceEntry). item_of gid e.what) es i _ c.loop-entry-test.true (sym c.item_of.ensures ∙ w.in_default.is) in
      record {
        sets = ap (λ (v : CurveValue). v.sets) w.curve-is ∙ c.loop-entry.invariant.sets;
        few = omega (arith, ap (λ (v : CurveValue). v.uses) w.curve-is, c.loop-entry.invariant.few);
        items = subst (λ (v : CurveValue). AddsItems old v (items_among gid (take (i + 1) es))) (sym w.curve-is) (subst (λ (l : List Item). AddsItems old c.loop-entry.curve l) (sym same) c.loop-entry.invariant.items);
      }
]
