use Rattle.std.proofs.Common.{◌≡◌, ◌∙◌, ◌∷◌, [], ◌++◌, List, ap, length, sym, subst, arith}
use Rattle.std.proofs.lemmas.List.{length_push}
use Rattle.live_law.specs.Passes.{PassesKeep}
use Rattle.live_run.proofs.Gathered.{AreGathered-push, length-gathered}
use Rattle.live_run.proofs.close.gather.Goals as goal
use Rattle.live_run.specs.Closings.{AreGathered}
use Rattle.live_run.specs.Names.{PassesValue, SeenValue, seen_by}
use Rattle.run_law.specs.declared.journals.TreeEntry.{TreeEntry}
use Rattle.seen_journal.specs.Passes.{PassValue}

pub give_each-requires-clause-room : goal.give_each-requires-clause-room
give_each-requires-clause-room g c k d within =
    let had = c.loop-passes.invariant in
    omega (arith, had.lists_room k d within, ap length (c.in-Some.ensures.steps).0, length-gathered g.N.RunNames.script g.N.RunNames.tree g.N.RunNames.slices c.loop-passes.yielded c.loop-passes.trees.items c.loop-passes.lists.items k d had.gathered within)

pub loop-passes-preserved : goal.loop-passes-preserved
loop-passes-preserved g c =
    let script = g.N.RunNames.script in
    let had = c.loop-passes.invariant in
    let ps : List PassesValue = c.loop-passes.yielded in
    let p : PassesValue = c.in-Some.passes in
    let s : SeenValue = record { thread = c.seen.inside.thread; tree = c.seen.inside.tree; slices = c.seen.inside.slices.items } in
    let same : s ≡ p.seen = c.seen.view_is ∙ ap (λ (q : PassesValue). q.seen) c.passes.view_is in
    let next : c.passes.inside.next ≡ p.next = ap (λ (q : PassesValue). q.next) c.passes.view_is in
    let keeps : PassesKeep script s.thread p.next (seen_by s) = subst (λ (z : SeenValue). PassesKeep script z.thread p.next (seen_by z)) (sym c.seen.view_is) (subst (λ n. PassesKeep script c.passes.inside.side.seen.thread n (seen_by c.passes.inside.side.seen)) next c.passes.invariant.keep) in
    record {
      gathered = subst (λ (ts : List (PassValue TreeEntry)). AreGathered script g.N.RunNames.tree g.N.RunNames.slices (ps ++ p ∷ []) ts c.give_each.new.lists.items) (sym c.push_reserved.ensures.items) (AreGathered-push script g.N.RunNames.tree g.N.RunNames.slices ps p c.loop-passes.trees.items c.loop-passes.lists.items c.give_each.new.lists.items s same had.gathered c.seen.invariant keeps c.give_each.ensures);
      trees_room = omega (arith, had.trees_room, length_push ps p, ap length (c.in-Some.ensures.steps).0, c.push_reserved.ensures.capacity);
      lists_room = λ k d within. omega (arith, had.lists_room k d (omega (arith, within, c.give_each.ensures.count)), c.give_each.ensures.room k d, length_push ps p, ap length (c.in-Some.ensures.steps).0);
    }
