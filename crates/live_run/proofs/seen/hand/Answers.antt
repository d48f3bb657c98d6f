use Rattle.std.proofs.Common.{◌≡◌, List, ◌∙◌, length, ap, ap₂, sym, subst, arith}
use Rattle.cache_core.specs.declared.entry.SliceEntry.{SliceEntry}
use Rattle.live_run.proofs.Bridges.{either_threads}
use Rattle.live_run.proofs.Meetings.{has_taken, met_flip, met_same, seen_passes, take_seen}
use Rattle.live_run.proofs.Trees.{lists_same}
use Rattle.live_run.proofs.seen.hand.Goals as goal
use Rattle.live_run.proofs.seen.hand.Goals.{After-meet_all}
use Rattle.live_run.proofs.seen.hand.Given.{Over}
use Rattle.live_run.specs.Cells.{AreOfThreads, taken_from}
use Rattle.live_run.specs.Names.{SeenValue, history_of}
use Rattle.live_run.specs.Steps.{HasTaken}
use Rattle.run_law.specs.TreeHistory.{TreeEntryValue}
use Rattle.seen_journal.specs.Prefixes.{longer_of}

pub meet-requires : goal.meet-requires
meet-requires g c = record { name = c.a.invariant.tree_name ∙ sym c.b.invariant.tree_name }

pub meet_all-requires : goal.meet_all-requires
meet_all-requires g c = record {
  count = c.a.invariant.count ∙ sym c.b.invariant.count;
  names = λ i less. c.a.invariant.names i less ∙ sym (c.b.invariant.names i (omega (arith, less, c.a.invariant.count, c.b.invariant.count)));
}

threads : (g : Over) (c : After-meet_all g) → AreOfThreads taken_from (longer_of c.a.inside.tree.seen c.b.inside.tree.seen)
threads g c = either_threads taken_from c.a.inside.tree.seen c.b.inside.tree.seen c.a.invariant.tree_threads c.b.invariant.tree_threads

pub invariant_of-a : goal.invariant_of-a
invariant_of-a g c =
    let a : SeenValue = record { thread = c.a.inside.thread; tree = c.a.inside.tree; slices = c.a.inside.slices.items } in
    let b : SeenValue = record { thread = c.b.inside.thread; tree = c.b.inside.tree; slices = c.b.inside.slices.items } in
    take_seen g.N.RunNames.script g.N.RunNames.tree g.N.RunNames.slices a c.meet.new.a (longer_of a.tree.seen b.tree.seen) b.slices c.meet_all.new.mine.items c.meet_all.new.cell.items c.a.invariant c.meet.ensures.a
    (threads g (goal.at.invariant_of-a g c).After-meet_all) (seen_passes g.N.RunNames.script g.N.RunNames.tree g.N.RunNames.slices b c.b.invariant)
    (met_flip a.slices b.slices c.meet_all.new.cell.items c.meet_all.new.mine.items (c.a.invariant.count ∙ sym c.b.invariant.count) c.meet_all.ensures)

pub invariant_of-b : goal.invariant_of-b
invariant_of-b g c =
    let a : SeenValue = record { thread = c.a.inside.thread; tree = c.a.inside.tree; slices = c.a.inside.slices.items } in
    let b : SeenValue = record { thread = c.b.inside.thread; tree = c.b.inside.tree; slices = c.b.inside.slices.items } in
    take_seen g.N.RunNames.script g.N.RunNames.tree g.N.RunNames.slices b c.meet.new.b (longer_of a.tree.seen b.tree.seen) a.slices c.meet_all.new.cell.items c.meet_all.new.mine.items c.b.invariant c.meet.ensures.b
    (threads g (goal.at.invariant_of-b g c).After-meet_all) (seen_passes g.N.RunNames.script g.N.RunNames.tree g.N.RunNames.slices a c.a.invariant) c.meet_all.ensures

pub returns : goal.returns
returns g c =
    let script = g.N.RunNames.script in
    let a : SeenValue = record { thread = c.a.inside.thread; tree = c.a.inside.tree; slices = c.a.inside.slices.items } in
    let b : SeenValue = record { thread = c.b.inside.thread; tree = c.b.inside.tree; slices = c.b.inside.slices.items } in
    let a_now : SeenValue = record { thread = a.thread; tree = c.meet.new.a; slices = c.meet_all.new.cell.items } in
    let b_now : SeenValue = record { thread = b.thread; tree = c.meet.new.b; slices = c.meet_all.new.mine.items } in
    let counts : length a.slices ≡ length b.slices = c.a.invariant.count ∙ sym c.b.invariant.count in
    let its = threads g (goal.at.returns g c).After-meet_all in
    let first : HasTaken a a_now = has_taken script g.N.RunNames.tree g.N.RunNames.slices a c.meet.new.a (longer_of a.tree.seen b.tree.seen) b.slices c.meet_all.new.mine.items c.meet_all.new.cell.items c.a.invariant c.meet.ensures.a its
    (seen_passes script g.N.RunNames.tree g.N.RunNames.slices b c.b.invariant) (met_flip a.slices b.slices c.meet_all.new.cell.items c.meet_all.new.mine.items counts c.meet_all.ensures) in
    let second : HasTaken b b_now = has_taken script g.N.RunNames.tree g.N.RunNames.slices b c.meet.new.b (longer_of a.tree.seen b.tree.seen) a.slices c.meet_all.new.cell.items c.meet_all.new.mine.items c.b.invariant c.meet.ensures.b its
    (seen_passes script g.N.RunNames.tree g.N.RunNames.slices a c.a.invariant) c.meet_all.ensures in
    record {
      a = subst (λ (v : SeenValue). HasTaken v a_now) c.a.view_is first;
      b = subst (λ (v : SeenValue). HasTaken v b_now) c.b.view_is second;
      same = ap₂ (λ (hs : List TreeEntryValue) (ls : List (List SliceEntry)). record { tree = hs; slices = ls }) (ap history_of (c.meet.ensures.a.seen_are ∙ sym c.meet.ensures.b.seen_are))
          (lists_same c.meet_all.new.cell.items c.meet_all.new.mine.items (met_same a.slices b.slices c.meet_all.new.cell.items c.meet_all.new.mine.items c.meet_all.ensures counts));
    }
