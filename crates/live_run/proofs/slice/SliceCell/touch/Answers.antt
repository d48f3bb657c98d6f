use Rattle.std.proofs.Common.{ℕ, length, refl, sym, ap, ◌∙◌, arith}
use Rattle.cache_core.specs.Stands.{entry}
use Rattle.cache_core.specs.declared.entry.What.TheVariants as whats
use Rattle.seen_journal.proofs.laws.Prefixes.{length-prefix}
use Rattle.live_run.proofs.Cells.{cell_clock, cell_floor, cell_sees, cell_touches}
use Rattle.live_run.proofs.slice.SliceCell.touch.Goals as goal
use Rattle.live_run.specs.Cells.{SliceCellValue}
use Rattle.live_run.specs.Names.{name_at}
use Rattle.cache_core.specs.declared.entry.SliceEntry.{SliceEntry}
use Rattle.shared_parts.specs.Parts.{parts_after}
use Rattle.schedule_law.specs.declared.part.Happening.TheVariants as happenings
use Rattle.schedule_law.specs.LiveParts.{after}
use Rattle.live_run.proofs.SliceSteps.{lock_there, may_tag_again, may_touch, share_after, share_same}
use Rattle.seen_journal.specs.Prefixes.{longer_of}

pub invariant_of-self : goal.invariant_of-self
invariant_of-self g c =
    let old : SliceCellValue = record { cache = c.self.inside.cache; journal = c.self.inside.journal; tree = c.self.inside.tree; share = c.self.inside.share } in
    share_same g.N.RunNames.script g.T.NamedTable.table g.N.RunNames.tree (name_at g.N.RunNames.slices g.row.I) g.row.I (record { cache = c.self.inside.cache; journal = c.self.inside.journal; tree = c.meet.new.tree; share = c.self.inside.share })
    (cell_sees g.N.RunNames.script g.T.NamedTable.table g.N.RunNames.tree (name_at g.N.RunNames.slices g.row.I) g.row.I old c.meet.new.tree (longer_of c.self.inside.tree.seen c.args.side.now.seen.tree.seen) c.meet.ensures.cell c.meet.ensures.threads c.self.invariant)
    c.tag_again.new.slice c.tag_again.ensures.table.0 c.tag_again.ensures.slice

pub returns-then-tag-floor-clause-touched : goal.returns-then-tag-floor-clause-touched
returns-then-tag-floor-clause-touched g c =
    let old : SliceCellValue = record { cache = c.self.inside.cache; journal = c.self.inside.journal; tree = c.self.inside.tree; share = c.self.inside.share } in
    let floor = cell_floor g.N.RunNames.script g.T.NamedTable.table g.N.RunNames.tree (name_at g.N.RunNames.slices g.row.I) g.row.I old c.self.invariant in
    let longer = length-prefix c.self.inside.tree.seen c.meet.new.tree.seen c.meet.ensures.cell.prefix in
    (c.meet.ensures.thread, omega (arith, floor, longer, ap length c.meet.ensures.same, c.floor.ensures, c.if-tag-floor.true))

pub reach-reached-requires-clause-clock : goal.reach-reached-requires-clause-clock
reach-reached-requires-clause-clock g c =
    let old : SliceCellValue = record { cache = c.self.inside.cache; journal = c.self.inside.journal; tree = c.self.inside.tree; share = c.self.inside.share } in
    cell_clock g.N.RunNames.script g.T.NamedTable.table g.N.RunNames.tree (name_at g.N.RunNames.slices g.row.I) g.row.I old c.self.invariant

pub invariant_of-self-2 : goal.invariant_of-self-2
invariant_of-self-2 g c =
    let i : ℕ = g.row.I in
    let s = c.args.side.now.seen in
    let tag = c.args.access.now.tag in
    let met = c.meet.new.s in
    let what = whats.Access c.reach-reached.result.hit c.reach-reached.result.way tag.owner tag.rmid tag.mask c.args.access.now.line in
    let old : SliceCellValue = record { cache = c.self.inside.cache; journal = c.self.inside.journal; tree = c.self.inside.tree; share = c.self.inside.share } in
    cell_touches g.N.RunNames.script g.T.NamedTable.table g.N.RunNames.tree (name_at g.N.RunNames.slices i) i old c.meet.new.tree (longer_of c.self.inside.tree.seen s.tree.seen) s met c.reach-reached.new.cache c.note.new.journal c.touch.new.slice c.args.access.now.number tag.epoch what c.entry-entry.result c.self.invariant
    c.meet.ensures.cell c.meet.ensures.threads c.meet.ensures.thread c.meet.ensures.same c.requires.may.within c.requires.may.known c.requires.may.made c.reach-reached.ensures.shape c.reach-reached.ensures.rmids c.reach-reached.ensures.adds
    (c.entry-entry.ensures ∙ (ap (λ t. entry t c.args.access.now.number tag.epoch c.access_of-what.result) c.thread-2.ensures.thread ∙ ap (λ w. entry met.thread c.args.access.now.number tag.epoch w) c.access_of-what.ensures))
    c.note.ensures.name c.note.ensures.list c.note.ensures.few c.note.ensures.prefix
    (share_after g.N.RunNames.script g.T.NamedTable.table g.N.RunNames.tree (name_at g.N.RunNames.slices g.row.I) g.row.I old c.self.invariant c.entry-entry.result (happenings.Touch c.entry-entry.result) c.touch.new.slice refl c.touch.ensures.table.0 c.touch.ensures.slice)

-- ---- by the parts at hand

pub tag_again-requires-clause-table : goal.tag_again-requires-clause-table
tag_again-requires-clause-table g c = c.self.invariant.share_is.table_is ∙ sym c.requires.tagged.share.table_is

pub tag_again-requires-clause-lock : goal.tag_again-requires-clause-lock
tag_again-requires-clause-lock g c =
    let old : SliceCellValue = record { cache = c.self.inside.cache; journal = c.self.inside.journal; tree = c.self.inside.tree; share = c.self.inside.share } in
    lock_there g.N.RunNames.script g.T.NamedTable.table g.N.RunNames.tree (name_at g.N.RunNames.slices g.row.I) g.row.I old c.self.invariant c.args.side.now.share c.requires.tagged.share.table_is

pub tag_again-requires-clause-may : goal.tag_again-requires-clause-may
tag_again-requires-clause-may g c =
    let old : SliceCellValue = record { cache = c.self.inside.cache; journal = c.self.inside.journal; tree = c.self.inside.tree; share = c.self.inside.share } in
    may_tag_again g.N.RunNames.script g.T.NamedTable.table g.N.RunNames.tree (name_at g.N.RunNames.slices g.row.I) g.row.I old c.self.invariant c.args.access.now.number c.args.access.now.line c.args.access.now.tag c.args.side.now.seen c.args.side.now.share c.requires.tagged (omega (arith, c.floor.ensures, c.if-tag-floor.true))

pub touch-requires-clause-table : goal.touch-requires-clause-table
touch-requires-clause-table g c = c.self.invariant.share_is.table_is ∙ sym c.requires.tagged.share.table_is

pub touch-requires-clause-lock : goal.touch-requires-clause-lock
touch-requires-clause-lock g c =
    let old : SliceCellValue = record { cache = c.self.inside.cache; journal = c.self.inside.journal; tree = c.self.inside.tree; share = c.self.inside.share } in
    lock_there g.N.RunNames.script g.T.NamedTable.table g.N.RunNames.tree (name_at g.N.RunNames.slices g.row.I) g.row.I old c.self.invariant c.args.side.now.share c.requires.tagged.share.table_is

pub touch-requires-clause-may : goal.touch-requires-clause-may
touch-requires-clause-may g c =
    let old : SliceCellValue = record { cache = c.self.inside.cache; journal = c.self.inside.journal; tree = c.self.inside.tree; share = c.self.inside.share } in
    let tag = c.args.access.now.tag in
    may_touch g.N.RunNames.script g.T.NamedTable.table g.N.RunNames.tree (name_at g.N.RunNames.slices g.row.I) g.row.I old c.self.invariant c.reach-reached.new.cache c.args.access.now.number c.args.access.now.line tag c.reach-reached.result.hit c.reach-reached.result.way c.args.side.now.seen c.args.side.now.share c.entry-entry.result c.requires.tagged
    (omega (arith, c.floor.ensures, c.if-tag-floor.false))
    (c.entry-entry.ensures ∙ (ap (λ t. entry t c.args.access.now.number tag.epoch c.access_of-what.result) (c.thread-2.ensures.thread ∙ c.meet.ensures.thread.thread) ∙ ap (λ w. entry c.args.side.now.seen.thread c.args.access.now.number tag.epoch w) c.access_of-what.ensures))
    c.reach-reached.ensures.shape c.reach-reached.ensures.adds

pub returns-clause-worker : goal.returns-clause-worker
returns-clause-worker g c =
    let tag = c.args.access.now.tag in
    let is = c.entry-entry.ensures ∙ (ap (λ t. entry t c.args.access.now.number tag.epoch c.access_of-what.result) (c.thread-2.ensures.thread ∙ c.meet.ensures.thread.thread) ∙ ap (λ w. entry c.args.side.now.seen.thread c.args.access.now.number tag.epoch w) c.access_of-what.ensures) in
    (c.touch.ensures.table.1, c.touch.ensures.worker ∙ ap (λ (x : SliceEntry). parts_after after (happenings.Touch x) c.args.side.now.share.parts) is)
