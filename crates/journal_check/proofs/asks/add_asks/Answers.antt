use Rattle.std.proofs.Common.{List, length, ap, arith}
use Rattle.cache_core.specs.declared.entry.SliceEntry.{SliceEntry}
use Rattle.journal_check.proofs.AskLists.{AreAsks-slice}
use Rattle.journal_check.proofs.asks.add_asks.Goals as goal

pub returns : goal.returns
returns c =
    AreAsks-slice c.args.script.now c.args.j.now c.args.i c.loop-p.p c.loop-p.asks.items
    (let over = c.loop-p-test.false in omega (arith, over, ap (λ (es : List SliceEntry). length es) c.slice-entries.ensures)) c.loop-p.invariant
