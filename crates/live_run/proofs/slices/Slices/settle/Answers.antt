use Rattle.std.proofs.Common.{arith, refl}
use Rattle.live_run.proofs.Settled.{MaySettle, MaySettle-next}
use Rattle.live_run.proofs.slices.Slices.settle.Given.{Over}
use Rattle.live_run.proofs.slices.Slices.settle.Goals as goal
use Rattle.live_run.proofs.slices.Slices.settle.Goals.{After-settle, After-settle-2, After-settle-3, After-settle-4, After-settle-5, After-settle-6, After-settle-7}

-- the first four are settled
may-1 : (g : Over) (c : After-settle g) → MaySettle g.N.RunNames.script g.T.NamedTable.table g.N.RunNames.tree g.N.RunNames.slices 4 c.settle.new.history c.settle.new.into
may-1 g c = MaySettle-next g.N.RunNames.script g.T.NamedTable.table g.N.RunNames.tree g.N.RunNames.slices c.args.history.now c.settle.new.history c.args.into.now c.settle.new.into 4 c.requires.name c.requires.threads c.requires.room c.settle.ensures.history c.settle.ensures.room c.settle.ensures.after

-- and then four more, each time
may-2 : (g : Over) (c : After-settle-2 g) → MaySettle g.N.RunNames.script g.T.NamedTable.table g.N.RunNames.tree g.N.RunNames.slices 4 c.settle.new.history c.settle.new.into → MaySettle g.N.RunNames.script g.T.NamedTable.table g.N.RunNames.tree g.N.RunNames.slices 8 c.settle-2.new.history c.settle-2.new.into
may-2 g c may = MaySettle-next g.N.RunNames.script g.T.NamedTable.table g.N.RunNames.tree g.N.RunNames.slices c.settle.new.history c.settle-2.new.history c.settle.new.into c.settle-2.new.into 8 may.name may.threads may.room c.settle-2.ensures.history c.settle-2.ensures.room c.settle-2.ensures.after

may-3 : (g : Over) (c : After-settle-3 g) → MaySettle g.N.RunNames.script g.T.NamedTable.table g.N.RunNames.tree g.N.RunNames.slices 8 c.settle-2.new.history c.settle-2.new.into → MaySettle g.N.RunNames.script g.T.NamedTable.table g.N.RunNames.tree g.N.RunNames.slices 12 c.settle-3.new.history c.settle-3.new.into
may-3 g c may = MaySettle-next g.N.RunNames.script g.T.NamedTable.table g.N.RunNames.tree g.N.RunNames.slices c.settle-2.new.history c.settle-3.new.history c.settle-2.new.into c.settle-3.new.into 12 may.name may.threads may.room c.settle-3.ensures.history c.settle-3.ensures.room c.settle-3.ensures.after

may-4 : (g : Over) (c : After-settle-4 g) → MaySettle g.N.RunNames.script g.T.NamedTable.table g.N.RunNames.tree g.N.RunNames.slices 12 c.settle-3.new.history c.settle-3.new.into → MaySettle g.N.RunNames.script g.T.NamedTable.table g.N.RunNames.tree g.N.RunNames.slices 16 c.settle-4.new.history c.settle-4.new.into
may-4 g c may = MaySettle-next g.N.RunNames.script g.T.NamedTable.table g.N.RunNames.tree g.N.RunNames.slices c.settle-3.new.history c.settle-4.new.history c.settle-3.new.into c.settle-4.new.into 16 may.name may.threads may.room c.settle-4.ensures.history c.settle-4.ensures.room c.settle-4.ensures.after

may-5 : (g : Over) (c : After-settle-5 g) → MaySettle g.N.RunNames.script g.T.NamedTable.table g.N.RunNames.tree g.N.RunNames.slices 16 c.settle-4.new.history c.settle-4.new.into → MaySettle g.N.RunNames.script g.T.NamedTable.table g.N.RunNames.tree g.N.RunNames.slices 20 c.settle-5.new.history c.settle-5.new.into
may-5 g c may = MaySettle-next g.N.RunNames.script g.T.NamedTable.table g.N.RunNames.tree g.N.RunNames.slices c.settle-4.new.history c.settle-5.new.history c.settle-4.new.into c.settle-5.new.into 20 may.name may.threads may.room c.settle-5.ensures.history c.settle-5.ensures.room c.settle-5.ensures.after

may-6 : (g : Over) (c : After-settle-6 g) → MaySettle g.N.RunNames.script g.T.NamedTable.table g.N.RunNames.tree g.N.RunNames.slices 20 c.settle-5.new.history c.settle-5.new.into → MaySettle g.N.RunNames.script g.T.NamedTable.table g.N.RunNames.tree g.N.RunNames.slices 24 c.settle-6.new.history c.settle-6.new.into
may-6 g c may = MaySettle-next g.N.RunNames.script g.T.NamedTable.table g.N.RunNames.tree g.N.RunNames.slices c.settle-5.new.history c.settle-6.new.history c.settle-5.new.into c.settle-6.new.into 24 may.name may.threads may.room c.settle-6.ensures.history c.settle-6.ensures.room c.settle-6.ensures.after

may-7 : (g : Over) (c : After-settle-7 g) → MaySettle g.N.RunNames.script g.T.NamedTable.table g.N.RunNames.tree g.N.RunNames.slices 24 c.settle-6.new.history c.settle-6.new.into → MaySettle g.N.RunNames.script g.T.NamedTable.table g.N.RunNames.tree g.N.RunNames.slices 28 c.settle-7.new.history c.settle-7.new.into
may-7 g c may = MaySettle-next g.N.RunNames.script g.T.NamedTable.table g.N.RunNames.tree g.N.RunNames.slices c.settle-6.new.history c.settle-7.new.history c.settle-6.new.into c.settle-7.new.into 28 may.name may.threads may.room c.settle-7.ensures.history c.settle-7.ensures.room c.settle-7.ensures.after

pub settle-requires-2 : goal.settle-requires-2
settle-requires-2 g c =
    let m1 = may-1 g (goal.at.settle-requires-2 g c).After-settle in
    (omega arith, ((refl, refl, refl), (m1.name, (m1.threads, (m1.room, m1.before)))))

pub settle-requires-3 : goal.settle-requires-3
settle-requires-3 g c =
    let m1 = may-1 g (goal.at.settle-requires-3 g c).After-settle in
    let m2 = may-2 g (goal.at.settle-requires-3 g c).After-settle-2 m1 in
    (omega arith, ((refl, refl, refl), (m2.name, (m2.threads, (m2.room, m2.before)))))

pub settle-requires-4 : goal.settle-requires-4
settle-requires-4 g c =
    let m1 = may-1 g (goal.at.settle-requires-4 g c).After-settle in
    let m2 = may-2 g (goal.at.settle-requires-4 g c).After-settle-2 m1 in
    let m3 = may-3 g (goal.at.settle-requires-4 g c).After-settle-3 m2 in
    (omega arith, ((refl, refl, refl), (m3.name, (m3.threads, (m3.room, m3.before)))))

pub settle-requires-5 : goal.settle-requires-5
settle-requires-5 g c =
    let m1 = may-1 g (goal.at.settle-requires-5 g c).After-settle in
    let m2 = may-2 g (goal.at.settle-requires-5 g c).After-settle-2 m1 in
    let m3 = may-3 g (goal.at.settle-requires-5 g c).After-settle-3 m2 in
    let m4 = may-4 g (goal.at.settle-requires-5 g c).After-settle-4 m3 in
    (omega arith, ((refl, refl, refl), (m4.name, (m4.threads, (m4.room, m4.before)))))

pub settle-requires-6 : goal.settle-requires-6
settle-requires-6 g c =
    let m1 = may-1 g (goal.at.settle-requires-6 g c).After-settle in
    let m2 = may-2 g (goal.at.settle-requires-6 g c).After-settle-2 m1 in
    let m3 = may-3 g (goal.at.settle-requires-6 g c).After-settle-3 m2 in
    let m4 = may-4 g (goal.at.settle-requires-6 g c).After-settle-4 m3 in
    let m5 = may-5 g (goal.at.settle-requires-6 g c).After-settle-5 m4 in
    (omega arith, ((refl, refl, refl), (m5.name, (m5.threads, (m5.room, m5.before)))))

pub settle-requires-7 : goal.settle-requires-7
settle-requires-7 g c =
    let m1 = may-1 g (goal.at.settle-requires-7 g c).After-settle in
    let m2 = may-2 g (goal.at.settle-requires-7 g c).After-settle-2 m1 in
    let m3 = may-3 g (goal.at.settle-requires-7 g c).After-settle-3 m2 in
    let m4 = may-4 g (goal.at.settle-requires-7 g c).After-settle-4 m3 in
    let m5 = may-5 g (goal.at.settle-requires-7 g c).After-settle-5 m4 in
    let m6 = may-6 g (goal.at.settle-requires-7 g c).After-settle-6 m5 in
    (omega arith, ((refl, refl, refl), (m6.name, (m6.threads, (m6.room, m6.before)))))

pub settle-requires-8 : goal.settle-requires-8
settle-requires-8 g c =
    let m1 = may-1 g (goal.at.settle-requires-8 g c).After-settle in
    let m2 = may-2 g (goal.at.settle-requires-8 g c).After-settle-2 m1 in
    let m3 = may-3 g (goal.at.settle-requires-8 g c).After-settle-3 m2 in
    let m4 = may-4 g (goal.at.settle-requires-8 g c).After-settle-4 m3 in
    let m5 = may-5 g (goal.at.settle-requires-8 g c).After-settle-5 m4 in
    let m6 = may-6 g (goal.at.settle-requires-8 g c).After-settle-6 m5 in
    let m7 = may-7 g (goal.at.settle-requires-8 g c).After-settle-7 m6 in
    (omega arith, ((refl, refl, refl), (m7.name, (m7.threads, (m7.room, m7.before)))))
