use Rattle.std.proofs.Common.{ℕ, ◌-◌, length, refl, sym, ap, ◌∙◌, subst, arith}
use Rattle.cache_core.specs.Stands.{entry}
use Rattle.seen_journal.proofs.laws.Prefixes.{length-prefix}
use Rattle.live_run.proofs.Cells.{cell_clock, cell_floor, cell_notes}
use Rattle.live_run.proofs.slice.SliceCell.follow.Goals as goal
use Rattle.live_run.specs.Cells.{SliceCellValue}
use Rattle.live_run.specs.Names.{history_of, name_at}
use Rattle.run_law.specs.Journals.{At}
use Rattle.schedule_law.specs.declared.part.Happening.TheVariants as happenings
use Rattle.live_run.proofs.SliceSteps.{lock_there, may_follow_on, share_after}
use Rattle.seen_journal.specs.Passes.{HasSeen}

pub enact-what-requires-clause-floor : goal.enact-what-requires-clause-floor
enact-what-requires-clause-floor g c =
    let old : SliceCellValue = record { cache = c.self.inside.cache; journal = c.self.inside.journal; tree = c.self.inside.tree; share = c.self.inside.share } in
    let floor = cell_floor g.N.RunNames.script g.T.NamedTable.table g.N.RunNames.tree (name_at g.N.RunNames.slices g.row.I) g.row.I old c.self.invariant in
    let longer = length-prefix c.self.inside.tree.seen c.show.new.pass.seen c.show.ensures.seen.prefix in
    omega (arith, floor, longer, ap length c.show.ensures.seen.seen_are, c.requires.may.is_epoch)

pub enact-what-requires-clause-clock : goal.enact-what-requires-clause-clock
enact-what-requires-clause-clock g c =
    let old : SliceCellValue = record { cache = c.self.inside.cache; journal = c.self.inside.journal; tree = c.self.inside.tree; share = c.self.inside.share } in
    cell_clock g.N.RunNames.script g.T.NamedTable.table g.N.RunNames.tree (name_at g.N.RunNames.slices g.row.I) g.row.I old c.self.invariant

pub invariant_of-self : goal.invariant_of-self
invariant_of-self g c =
    let i : ℕ = g.row.I in
    let s = c.args.side.now.seen in
    let what = c.enact-what.result in
    let old : SliceCellValue = record { cache = c.self.inside.cache; journal = c.self.inside.journal; tree = c.self.inside.tree; share = c.self.inside.share } in
    cell_notes g.N.RunNames.script g.T.NamedTable.table g.N.RunNames.tree (name_at g.N.RunNames.slices i) i old c.show.new.pass s c.enact-what.new.cache c.note.new.journal c.follow.new.slice c.args.step.number c.args.step.epoch (c.args.step.epoch - 1) what c.entry-entry.result c.self.invariant
    (subst (λ l. HasSeen c.self.inside.tree c.show.new.pass l) (sym c.requires.may.whole) c.show.ensures.seen) c.thread.ensures.threads (c.requires.may.is_epoch ∙ ap length (sym c.requires.may.whole)) (omega arith) c.requires.may.known c.requires.may.made
    (λ k h from less at. c.requires.may.last k h (omega (arith, from, less, c.requires.may.is_epoch)) (subst (λ xs. At (history_of xs) k h) c.requires.may.whole at))
    c.enact-what.ensures.shape c.enact-what.ensures.rmids c.enact-what.ensures.adds (c.entry-entry.ensures ∙ ap (λ t. entry t c.args.step.number c.args.step.epoch what) c.thread.ensures.thread)
    c.note.ensures.name c.note.ensures.list c.note.ensures.few c.note.ensures.prefix
    (share_after g.N.RunNames.script g.T.NamedTable.table g.N.RunNames.tree (name_at g.N.RunNames.slices g.row.I) g.row.I old c.self.invariant c.entry-entry.result (happenings.Follow c.entry-entry.result c.args.step.is_last) c.follow.new.slice refl c.follow.ensures.table.0 c.follow.ensures.slice)

pub follow-requires-clause-table : goal.follow-requires-clause-table
follow-requires-clause-table g c = c.self.invariant.share_is.table_is ∙ sym c.requires.next.share.table_is

pub follow-requires-clause-lock : goal.follow-requires-clause-lock
follow-requires-clause-lock g c =
    let old : SliceCellValue = record { cache = c.self.inside.cache; journal = c.self.inside.journal; tree = c.self.inside.tree; share = c.self.inside.share } in
    lock_there g.N.RunNames.script g.T.NamedTable.table g.N.RunNames.tree (name_at g.N.RunNames.slices g.row.I) g.row.I old c.self.invariant c.args.side.now.share c.requires.next.share.table_is

pub follow-requires-clause-may : goal.follow-requires-clause-may
follow-requires-clause-may g c =
    let old : SliceCellValue = record { cache = c.self.inside.cache; journal = c.self.inside.journal; tree = c.self.inside.tree; share = c.self.inside.share } in
    let what = c.enact-what.result in
    may_follow_on g.N.RunNames.script g.T.NamedTable.table g.N.RunNames.tree (name_at g.N.RunNames.slices g.row.I) g.row.I old c.self.invariant c.enact-what.new.cache c.args.step.number c.args.step.epoch c.args.step.follow what c.args.history.now c.args.side.now.seen c.args.side.now.share c.entry-entry.result c.args.step.is_last c.requires.next c.requires.may.is_epoch
    (c.entry-entry.ensures ∙ ap (λ t. entry t c.args.step.number c.args.step.epoch what) c.thread.ensures.thread) c.enact-what.ensures.owed c.enact-what.ensures.shape c.enact-what.ensures.adds (omega (arith, c.requires.may.is_epoch, c.show.ensures.few))

pub returns-clause-worker : goal.returns-clause-worker
returns-clause-worker g c = (c.entry-entry.result, (c.follow.ensures.table.1, c.follow.ensures.worker))
