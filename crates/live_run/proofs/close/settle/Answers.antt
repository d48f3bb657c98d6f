use Rattle.std.proofs.Common.{◌≡◌, ℕ, ap, sym, ◌∙◌, subst}
use Rattle.cache_core.specs.declared.entry.SliceEntry.{SliceEntry}
use Rattle.live_law.specs.Cells.{SliceKeeps}
use Rattle.seen_journal.specs.Prefixes.{IsPrefix}
use Rattle.live_law.proofs.laws.SliceCells.{SliceKeeps-longer}
use Rattle.live_run.proofs.Bridges.{history_prefix}
use Rattle.live_run.proofs.close.settle.Goals as goal
use Rattle.live_run.specs.Cells.{AreOfThreads, made_by}
use Rattle.live_run.specs.Names.{history_of}
use Rattle.seen_journal.specs.Entries.{list_of}
use Rattle.seen_journal.specs.Journals.{JournalValue}
use Rattle.seen_journal.specs.Passes.{HasSeen}

pub returns : goal.returns
returns g c =
    let i : ℕ = g.row.I in
    let script = g.N.RunNames.script in
    let had = c.cell.inside.tree.seen in
    let same : c.show-2.new.self ≡ c.cell.inside.journal = c.show-2.ensures.journal in
    let prefix : IsPrefix had c.args.history.now.entries = subst (λ xs. IsPrefix had xs) c.show.ensures.seen.seen_are c.show.ensures.seen.prefix in
    record {
      history = c.show.ensures.journal;
      name = ap (λ (j : JournalValue SliceEntry). j.name) same ∙ c.cell.invariant.journal_is;
      seen = subst (λ (j : JournalValue SliceEntry). HasSeen c.args.pass.now c.show-2.new.pass j.entries) (sym same) c.show-2.ensures.seen;
      threads = subst (λ (j : JournalValue SliceEntry). AreOfThreads made_by j.entries) (sym same) c.cell.invariant.threads;
      keeps = subst (λ (j : JournalValue SliceEntry). SliceKeeps script i (history_of c.args.history.now.entries) (list_of j.entries)) (sym same)
          (SliceKeeps-longer script i (history_of had) (history_of c.args.history.now.entries) (list_of c.cell.inside.journal.entries) (history_prefix had c.args.history.now.entries prefix) c.cell.invariant.keeps);
    }
