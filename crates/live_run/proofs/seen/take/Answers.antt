use Rattle.std.proofs.Common.{◌≡◌, ◌∙◌, length, sum, ap, sym, subst, arith}
use Rattle.live_run.proofs.Meetings.{has_taken, met_grown, met_passes, met_same, take_seen}
use Rattle.live_run.proofs.Room.{room-tree, sum-tree_quotas}
use Rattle.live_run.proofs.seen.take.Goals as goal
use Rattle.live_run.specs.Names.{SeenValue}
use Rattle.live_run.specs.Steps.{HasTaken}
use Rattle.live_run.specs.Visits.{HasRoomInTree}
use Rattle.run_law.specs.Quotas.{command_count}
use Rattle.seen_journal.specs.Journals.{JournalName}

pub invariant_of-s : goal.invariant_of-s
invariant_of-s g c =
    let s : SeenValue = record { thread = c.s.inside.thread; tree = c.s.inside.tree; slices = c.s.inside.slices.items } in
    take_seen g.N.RunNames.script g.N.RunNames.tree g.N.RunNames.slices s c.show.new.pass c.args.journal.now.entries c.args.slices.now.items c.meet_all.new.cell.items c.meet_all.new.mine.items c.s.invariant c.show.ensures.seen c.requires.threads c.requires.passes c.meet_all.ensures

pub returns : goal.returns
returns g c =
    let s : SeenValue = record { thread = c.s.inside.thread; tree = c.s.inside.tree; slices = c.s.inside.slices.items } in
    let now : SeenValue = record { thread = s.thread; tree = c.show.new.pass; slices = c.meet_all.new.mine.items } in
    let counts : length c.args.slices.now.items ≡ length s.slices = c.requires.passes.count ∙ sym c.s.invariant.count in
    let taken : HasTaken s now = has_taken g.N.RunNames.script g.N.RunNames.tree g.N.RunNames.slices s c.show.new.pass c.args.journal.now.entries c.args.slices.now.items c.meet_all.new.cell.items c.meet_all.new.mine.items c.s.invariant c.show.ensures.seen c.requires.threads c.requires.passes c.meet_all.ensures in
    let all : sum c.args.journal.now.name.quotas ≡ command_count g.N.RunNames.script = ap (λ (n : JournalName). sum n.quotas) c.requires.name ∙ sum-tree_quotas g.N.RunNames.script g.N.RunNames.tree g.N.RunNames.slices c.s.invariant.quotas in
    record {
      journal = c.show.ensures.journal;
      most = omega (arith, c.show.ensures.most, all);
      few = c.show.ensures.few;
      room = λ room.
          let had = room-tree g.N.RunNames.script g.N.RunNames.tree g.N.RunNames.slices s c.s.invariant (subst (HasRoomInTree g.N.RunNames.script) (sym c.s.view_is) room) in
          omega (arith, c.show.ensures.room had, all);
      tree = c.show.ensures.seen.seen_are;
      taken = subst (λ (v : SeenValue). HasTaken v now) c.s.view_is taken;
      passes = met_passes c.args.slices.now.items s.slices c.meet_all.new.cell.items c.meet_all.new.mine.items c.meet_all.ensures counts g.N.RunNames.script g.N.RunNames.slices c.requires.passes c.s.invariant.threads;
      same = met_same c.args.slices.now.items s.slices c.meet_all.new.cell.items c.meet_all.new.mine.items c.meet_all.ensures counts;
      grown = met_grown c.args.slices.now.items s.slices c.meet_all.new.cell.items c.meet_all.new.mine.items c.meet_all.ensures counts;
    }
