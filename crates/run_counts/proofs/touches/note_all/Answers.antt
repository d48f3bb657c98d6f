use Rattle.std.proofs.Common.{map, subst, ◌∙◌}
use Rattle.std.proofs.lemmas.List.{take_all}
use Rattle.run_counts.specs.Touches.{Notes}
use Rattle.run_law.specs.Entries.{entry_value}
use Rattle.run_counts.proofs.TouchHits.{Notes-more}
use Rattle.run_counts.proofs.touches.note_all.Goals as goal

pub loop-entry-preserved : goal.loop-entry-preserved
loop-entry-preserved c = record {
  size = c.note.ensures.size ∙ c.loop-entry.invariant.size;
  hits = Notes-more (map entry_value c.args.tree.now) c.args.hits.now.items c.loop-entry.hits.items c.note.new.hits.items c.args.entries.now c.loop-entry.entry-index _ c.loop-entry-test.true c.loop-entry.invariant.hits c.note.ensures.hits;
}

pub returns-clause-hits : goal.returns-clause-hits
returns-clause-hits c =
    subst (Notes (map entry_value c.args.tree.now) c.args.hits.now.items c.loop-entry.hits.items) (take_all c.loop-entry.entry-index c.args.entries.now c.loop-entry-test.false) c.loop-entry.invariant.hits
