use Rattle.std.proofs.Common.{◌≡◌, ◌∙◌, length, ap, sym, subst}
use Rattle.live_run.proofs.Meetings.{has_taken, met_grown, met_passes, met_same, take_seen}
use Rattle.seen_journal.proofs.laws.Passes.{HasSeen-self}
use Rattle.live_run.proofs.seen.release.Goals as goal
use Rattle.live_run.specs.Names.{SeenValue}
use Rattle.live_run.specs.Steps.{HasTaken}

pub invariant_of-s : goal.invariant_of-s
invariant_of-s g c =
    let s : SeenValue = record { thread = c.s.inside.thread; tree = c.s.inside.tree; slices = c.s.inside.slices.items } in
    take_seen g.N.RunNames.script g.N.RunNames.tree g.N.RunNames.slices s s.tree s.tree.seen c.args.slices.now.items c.meet_all.new.cell.items c.meet_all.new.mine.items c.s.invariant (HasSeen-self s.tree) c.s.invariant.tree_threads c.requires.passes c.meet_all.ensures

pub returns : goal.returns
returns g c =
    let s : SeenValue = record { thread = c.s.inside.thread; tree = c.s.inside.tree; slices = c.s.inside.slices.items } in
    let now : SeenValue = record { thread = s.thread; tree = s.tree; slices = c.meet_all.new.mine.items } in
    let counts : length c.args.slices.now.items ≡ length s.slices = c.requires.passes.count ∙ sym c.s.invariant.count in
    let taken : HasTaken s now = has_taken g.N.RunNames.script g.N.RunNames.tree g.N.RunNames.slices s s.tree s.tree.seen c.args.slices.now.items c.meet_all.new.cell.items c.meet_all.new.mine.items c.s.invariant (HasSeen-self s.tree) c.s.invariant.tree_threads c.requires.passes c.meet_all.ensures in
    record {
      tree = ap (λ (v : SeenValue). v.tree) c.s.view_is;
      taken = subst (λ (v : SeenValue). HasTaken v now) c.s.view_is taken;
      passes = met_passes c.args.slices.now.items s.slices c.meet_all.new.cell.items c.meet_all.new.mine.items c.meet_all.ensures counts g.N.RunNames.script g.N.RunNames.slices c.requires.passes c.s.invariant.threads;
      same = met_same c.args.slices.now.items s.slices c.meet_all.new.cell.items c.meet_all.new.mine.items c.meet_all.ensures counts;
      grown = met_grown c.args.slices.now.items s.slices c.meet_all.new.cell.items c.meet_all.new.mine.items c.meet_all.ensures counts;
    }
