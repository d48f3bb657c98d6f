use Rattle.std.proofs.Common.{sym, ◌∙◌}
use Rattle.run_counts.proofs.TouchHits.{is_touch_of-other}
use Rattle.run_counts.proofs.touches.touched_by.Goals as goal

pub returns-else-is_access_by-clause-command : goal.returns-else-is_access_by-clause-command
returns-else-is_access_by-clause-command c =
    is_touch_of-other c.args.tree.now c.in_ok-at.at c.index-tree-at.result c.args.entry.now c.in_ok-at.ensures.0 c.index-tree-at.is c.in_ok-at.ensures.1 (sym c.is_access_by.ensures ∙ c.if-is_access_by.false)
