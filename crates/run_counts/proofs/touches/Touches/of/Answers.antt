use Rattle.std.proofs.Common.{◌≡◌, ◌<◌, ◌≤◌, List, length, map, take, None, subst, sym, ap, ◌∙◌, arith}
use Rattle.std.specs.Prelude.{slice_index_or}
use Rattle.std.specs.List.{flat_map}
use Rattle.std.specs.Option.{option_or}
use Rattle.std.proofs.lemmas.Grind.{common_steps}
use Rattle.std.proofs.lemmas.List.{take_all}
use Rattle.cache_core.specs.declared.entry.SliceEntry.{SliceEntry}
use Rattle.run_counts.proofs.OtherCommands.{is_touch_in-none, first_hit-other}
use Rattle.run_counts.proofs.TouchHits.{first_hit-run, touch_hit-more}
use Rattle.run_counts.specs.Touches.{touch_hit}
use Rattle.run_law.specs.Entries.{entry_value}
use Rattle.run_law.specs.Journals.{At}
use Rattle.run_counts.proofs.touches.Touches.of.Goals as goal

pub loop-i-preserved : goal.loop-i-preserved
loop-i-preserved c =
    let j = c.args.journals.now in
    let within : c.loop-i.i < length j.slices = omega (arith, c.loop-i-test.true, c.slices_of-i-end.ensures.slices, c.requires.run.all_slices) in
    record {
      size = c.note_all.ensures.size ∙ c.loop-i.invariant.size;
      hits = λ k h there.
          c.note_all.ensures.hits k h there
          ∙ (ap (λ o. option_or o (touch_hit k h c.slice.result.now)) (c.loop-i.invariant.hits k h there)
          ∙ (ap (λ es. option_or (touch_hit k h (flat_map (λ (xs : List SliceEntry). xs) (take c.loop-i.i j.slices))) (touch_hit k h es)) c.slice.ensures
          ∙ sym (touch_hit-more k h j.slices c.loop-i.i within)));
    }

pub returns-clause-told : goal.returns-clause-told
returns-clause-told c k h there =
    let j = c.args.journals.now in
    let all : length j.slices ≤ c.loop-i.i = omega (arith, c.loop-i-test.false, c.slices_of-i-end.ensures.slices, c.requires.run.all_slices) in
    let here : At (map entry_value c.tree-tree.result.now) k h = subst (λ tree. At tree k h) (sym c.tree-tree.ensures) there in
    first_hit-run c.args.script.now j k h c.requires.run there
    ∙ sym (c.loop-i.invariant.hits k h here ∙ ap (λ es. touch_hit k h (flat_map (λ (xs : List SliceEntry). xs) es)) (take_all c.loop-i.i j.slices all))

pub returns-then-not-has_touch-clause-told : goal.returns-then-not-has_touch-clause-told
returns-then-not-has_touch-clause-told c k h there =
    let here : At (map entry_value c.tree-tree.result.now) k h = subst (λ tree. At tree k h) (sym c.tree-tree.ensures) there in
    let none : slice_index_or c.in_ok-hits.hits.items k None ≡ None = grind (arith, common_steps, c.in_ok-hits.ensures) in
    first_hit-other c.args.script.now c.args.journals.now k h c.requires.run there (is_touch_in-none c.args.script.now c.tree-tree.result.now k h (sym c.has_touch.ensures ∙ c.if-not-has_touch.true) here)
    ∙ sym none
