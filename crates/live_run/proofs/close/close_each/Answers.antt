use Rattle.std.proofs.Common.{◌≡◌, ◌∷◌, [], ◌++◌, ◌∙◌, All, List, Vec, ap, append_assoc, arith, length, map, subst, sym}
use Rattle.std.specs.Prelude.{slice_index_or}
use Rattle.std.specs.Vec.Iter.{into_iter_items}
use Rattle.std.specs.declared.alloc.Global.{Global}
use Rattle.std.proofs.lemmas.List.{get_or_append_left, length-append, length_push}
use Rattle.cache_core.specs.declared.entry.SliceEntry.{SliceEntry}
use Rattle.live_run.proofs.Closed.{closed_push, have_next, may_next}
use Rattle.live_run.proofs.close.close_each.Goals as goal
use Rattle.live_run.specs.Cells.{SliceCellValue}
use Rattle.live_run.specs.Closings.{HaveAll}
use Rattle.run_law.specs.Entries.{entries_of}
use Rattle.seen_journal.specs.Entries.{list_of}
use Rattle.seen_journal.specs.Journals.{JournalValue}
use Rattle.seen_journal.specs.Passes.{HasAll, PassValue}

pub close-requires-clause-names : goal.close-requires-clause-names
close-requires-clause-names g c =
    let had = c.loop-part.invariant in
    let part : SliceCellValue = c.in-Some.part in
    let rest : List SliceCellValue = into_iter_items c.next.new.self in
    let split = had.split ∙ ap (λ xs. c.loop-part.yielded ++ xs) (c.in-Some.ensures.steps).0 in
    (may_next c.args.parts.items c.loop-part.yielded rest part c.args.lists.items c.loop-part.lists.items c.take_last.new.self.items c.take_last.result split had.left had.same c.take_last.ensures.items c.part.inside.journal (ap (λ (p : SliceCellValue). p.journal) c.part.view_is) c.requires.may).names

pub close-requires-clause-once : goal.close-requires-clause-once
close-requires-clause-once g c =
    let had = c.loop-part.invariant in
    let part : SliceCellValue = c.in-Some.part in
    let rest : List SliceCellValue = into_iter_items c.next.new.self in
    let split = had.split ∙ ap (λ xs. c.loop-part.yielded ++ xs) (c.in-Some.ensures.steps).0 in
    (may_next c.args.parts.items c.loop-part.yielded rest part c.args.lists.items c.loop-part.lists.items c.take_last.new.self.items c.take_last.result split had.left had.same c.take_last.ensures.items c.part.inside.journal (ap (λ (p : SliceCellValue). p.journal) c.part.view_is) c.requires.may).once

pub loop-part-preserved : goal.loop-part-preserved
loop-part-preserved g c =
    let had = c.loop-part.invariant in
    let part : SliceCellValue = c.in-Some.part in
    let yielded : List SliceCellValue = c.loop-part.yielded in
    let rest : List SliceCellValue = into_iter_items c.next.new.self in
    let left_now : List (Vec (PassValue SliceEntry) Global) = c.take_last.new.self.items in
    let list : Vec (PassValue SliceEntry) Global = c.take_last.result in
    let split = had.split ∙ ap (λ xs. yielded ++ xs) (c.in-Some.ensures.steps).0 in
    let journal : c.part.inside.journal ≡ part.journal = ap (λ (p : SliceCellValue). p.journal) c.part.view_is in
    let all : All (HasAll c.part.inside.journal.entries) list.items = (λ k d within. record { prefix = c.close.ensures.seen k d within; own_are = sym (c.close.ensures.whole k d within) }) in
    record {
      split = split ∙ sym (append_assoc yielded (part ∷ []) rest);
      closed = ap (λ (ls : List (Vec SliceEntry Global)). map entries_of ls) c.push_reserved.ensures.items ∙ closed_push c.loop-part.all.items yielded c.close.result part (c.close.ensures.list ∙ ap (λ (j : JournalValue SliceEntry). list_of j.entries) journal) had.closed;
      left = omega (arith, had.left, ap length c.take_last.ensures.items, length_push left_now list, length_push yielded part);
      same = λ k d within.
          let kept = ap (λ (ls : List (Vec (PassValue SliceEntry) Global)). slice_index_or ls k d) c.take_last.ensures.items ∙ get_or_append_left left_now (list ∷ []) d k within in
          sym kept ∙ had.same k d (omega (arith, within, ap length c.take_last.ensures.items, length_push left_now list));
      room = omega (arith, had.room, ap length (c.in-Some.ensures.steps).0, ap length c.push_reserved.ensures.items, length_push c.loop-part.all.items c.close.result, c.push_reserved.ensures.capacity);
      have = have_next c.args.parts.items yielded rest part c.args.lists.items c.loop-part.lists.items left_now list split had.left had.same c.take_last.ensures.items (subst (λ (j : JournalValue SliceEntry). All (HasAll j.entries) list.items) journal all) had.have;
    }

pub returns-clause-all : goal.returns-clause-all
returns-clause-all g c =
    let had = c.loop-part.invariant in
    let none : length (into_iter_items c.loop-part.part-iterator) ≡ 0 = omega (arith, (c.in-None.ensures.steps).0, c.loop-part.part-iterator.rest.ok.0) in
    let all : length c.loop-part.yielded ≡ length c.args.parts.items = omega (arith, ap length had.split, length-append c.loop-part.yielded (into_iter_items c.loop-part.part-iterator), none) in
    subst (λ n. HaveAll n c.args.parts.items c.args.lists.items) all had.have
