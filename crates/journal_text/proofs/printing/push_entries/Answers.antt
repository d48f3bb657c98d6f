use Rattle.std.proofs.Common.{refl}
use Rattle.journal_text.specs.Lines.{entry_line}
use Rattle.journal_text.proofs.Pushes.{text_of-ended, text_of-none, text_of-take_suc}
use Rattle.journal_text.proofs.printing.push_entries.Goals as goal

pub loop-entry-init : goal.loop-entry-init
loop-entry-init c = text_of-none c.args.text.now

pub loop-entry-preserved : goal.loop-entry-preserved
loop-entry-preserved c =
    let line = text_of-ended c.loop-entry.text c.push_entry.new.text c.push.new.self _ c.in_ok-push_entry.ensures c.in_ok-push.ensures in
    text_of-take_suc entry_line c.args.entries.now c.args.text.now c.loop-entry.text c.push.new.self c.loop-entry.entry-index _ _ c.loop-entry-test.true refl c.loop-entry.invariant line
