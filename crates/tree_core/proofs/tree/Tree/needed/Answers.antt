use Rattle.std.proofs.Common.{sym, ap, ◌∙◌}
use Rattle.std.specs.List.{flat_map}
use Rattle.tree_core.proofs.NeededCounts.{needs_accepted-none}
use Rattle.tree_core.proofs.Outcomes.{needs-nothing}
use Rattle.tree_core.specs.RmidLists.{counts_in}
use Rattle.tree_core.proofs.tree.Tree.needed.Goals as goal

pub returns-in_default-clause-needs : goal.returns-in_default-clause-needs
returns-in_default-clause-needs c =
    let m = c.args.self.now.machine in let s = c.args.self.now.state in
    ap (flat_map (counts_in 0 1)) c.requires ∙ sym (needs-nothing m s c.args.op.now (needs_accepted-none m s c.args.op.now (record { rmdir = c.in_default.not-Rmdir; write = c.in_default.not-Write; tick = c.in_default.not-Tick; read = c.in_default.not-Read })))
