use Rattle.std.proofs.Common.{◌≡◌, ℕ, length, refl, sym, ap, ◌∙◌, subst, arith}
use Rattle.cache_core.specs.Stands.{entry}
use Rattle.cache_core.specs.declared.entry.What.TheVariants as whats
use Rattle.live_run.proofs.Cells.{cell_notes}
use Rattle.live_run.proofs.slice.SliceCell.look.Goals as goal
use Rattle.live_run.specs.Cells.{SliceCellValue}
use Rattle.live_run.specs.Names.{name_at}
use Rattle.cache_core.specs.History.{lines_of}
use Rattle.run_law.proofs.laws.Lines.{lines_of-few}
use Rattle.run_law.specs.Slices.{shape_in}
use Rattle.seen_journal.specs.Entries.{list_of}
use Rattle.cache_core.specs.declared.entry.SliceEntry.{SliceEntry}
use Rattle.shared_parts.specs.Parts.{parts_after}
use Rattle.schedule_law.specs.declared.part.Happening.TheVariants as happenings
use Rattle.schedule_law.specs.LiveParts.{after}
use Rattle.live_run.proofs.SliceSteps.{lock_there, may_count, share_after}
use Rattle.seen_journal.specs.Passes.{HasSeen}

pub invariant_of-self : goal.invariant_of-self
invariant_of-self g c =
    let i : ℕ = g.row.I in
    let s = c.args.side.now.seen in
    let what = whats.Look c.args.look.rmid c.look-lines.result in
    let old : SliceCellValue = record { cache = c.self.inside.cache; journal = c.self.inside.journal; tree = c.self.inside.tree; share = c.self.inside.share } in
    cell_notes g.N.RunNames.script g.T.NamedTable.table g.N.RunNames.tree (name_at g.N.RunNames.slices i) i old c.show.new.pass s c.self.inside.cache c.note.new.journal c.look.new.slice c.args.look.number c.args.look.epoch c.args.look.epoch what c.entry-entry.result c.self.invariant
    (subst (λ l. HasSeen c.self.inside.tree c.show.new.pass l) (sym c.requires.may.whole) c.show.ensures.seen) c.thread.ensures.threads (c.requires.may.is_epoch ∙ ap length (sym c.requires.may.whole)) (omega arith) c.requires.may.known c.requires.may.made
    (λ k h from less at. absurd (omega (arith, from, less))) refl refl (c.look-lines.ensures.entry c.args.look.epoch) (c.entry-entry.ensures ∙ ap (λ t. entry t c.args.look.number c.args.look.epoch what) c.thread.ensures.thread)
    c.note.ensures.name c.note.ensures.list c.note.ensures.few c.note.ensures.prefix
    (share_after g.N.RunNames.script g.T.NamedTable.table g.N.RunNames.tree (name_at g.N.RunNames.slices g.row.I) g.row.I old c.self.invariant c.entry-entry.result (happenings.Look c.entry-entry.result) c.look.new.slice refl c.look.ensures.table.0 c.look.ensures.slice)

pub returns-clause-few : goal.returns-clause-few
returns-clause-few g c =
    let i : ℕ = g.row.I in
    let entries = list_of c.self.inside.journal.entries in
    let is : c.look-lines.result ≡ lines_of (shape_in g.N.RunNames.script.machine i) entries c.args.look.rmid =
    c.look-lines.ensures.count entries c.self.invariant.stands ∙ ap (λ m. lines_of m entries c.args.look.rmid) c.self.invariant.shape in
    omega (arith, is, lines_of-few g.N.RunNames.script.machine i entries c.args.look.rmid c.self.invariant.lawful.in_range)

pub look-requires-clause-table : goal.look-requires-clause-table
look-requires-clause-table g c = c.self.invariant.share_is.table_is ∙ sym c.requires.next.share.table_is

pub look-requires-clause-lock : goal.look-requires-clause-lock
look-requires-clause-lock g c =
    let old : SliceCellValue = record { cache = c.self.inside.cache; journal = c.self.inside.journal; tree = c.self.inside.tree; share = c.self.inside.share } in
    lock_there g.N.RunNames.script g.T.NamedTable.table g.N.RunNames.tree (name_at g.N.RunNames.slices g.row.I) g.row.I old c.self.invariant c.args.side.now.share c.requires.next.share.table_is

pub look-requires-clause-may : goal.look-requires-clause-may
look-requires-clause-may g c =
    let old : SliceCellValue = record { cache = c.self.inside.cache; journal = c.self.inside.journal; tree = c.self.inside.tree; share = c.self.inside.share } in
    let what = whats.Look c.args.look.rmid c.look-lines.result in
    may_count g.N.RunNames.script g.T.NamedTable.table g.N.RunNames.tree (name_at g.N.RunNames.slices g.row.I) g.row.I old c.self.invariant c.args.look.number c.args.look.epoch c.args.look.rmid c.look-lines.result c.args.history.now c.args.side.now.seen c.args.side.now.share c.entry-entry.result c.requires.next c.requires.may.is_epoch
    (c.entry-entry.ensures ∙ ap (λ t. entry t c.args.look.number c.args.look.epoch what) c.thread.ensures.thread) (c.look-lines.ensures.entry c.args.look.epoch)

pub returns-clause-worker : goal.returns-clause-worker
returns-clause-worker g c =
    let what = whats.Look c.args.look.rmid c.look-lines.result in
    let is = c.entry-entry.ensures ∙ ap (λ t. entry t c.args.look.number c.args.look.epoch what) c.thread.ensures.thread in
    (c.look.ensures.table.1, c.look.ensures.worker ∙ ap (λ (x : SliceEntry). parts_after after (happenings.Look x) c.args.side.now.share.parts) is)
