use Rattle.std.proofs.Common.{◌∙◌, ap, ap₂, length}
use Rattle.live_run.proofs.FreshTree.{TreeIsKept-opening}
use Rattle.live_run.proofs.tree.TreeCell.open.Goals as goal
use Rattle.live_run.specs.Cells.{TreeCellValue}
use Rattle.script_ops.specs.Values.{ScriptValue, threads_of}
use Rattle.tree_law.specs.State.{opening}

pub invariant_of-result : goal.invariant_of-result
invariant_of-result g c =
    let script = g.N.RunNames.script in
    let cell : TreeCellValue = record { tree = c.in_ok-tree.tree; journal = c.args.journal; slices = c.args.slices.items; share = c.args.share } in
    let machine = c.machine.ensures ∙ ap (λ (x : ScriptValue). x.machine) c.requires.script in
    let tasks = c.tasks.ensures.tasks ∙ ap (λ (x : ScriptValue). x.tasks) c.requires.script in
    TreeIsKept-opening script g.T.NamedTable.table g.N.RunNames.tree g.N.RunNames.slices (length (threads_of script)) cell c.requires.lawful c.requires.name c.requires.empty c.requires.slices
    (c.in_ok-tree.ensures.machine ∙ machine) (c.in_ok-tree.ensures.state ∙ ap₂ opening machine tasks) c.in_ok-tree.ensures.epoch c.requires.share
