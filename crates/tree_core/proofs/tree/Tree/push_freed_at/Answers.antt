use Rattle.std.proofs.Common.{sym, ap, ◌∙◌}
use Rattle.script_ops.specs.declared.op.Op.TheVariants.{Rmdir}
use Rattle.tree_core.proofs.Outcomes.{needs-accepted, needs-refused, refusal-rmdir_some}
use Rattle.tree_core.proofs.RemovablePaths.{refusal-found}
use Rattle.tree_core.specs.Found.{found_path}
use Rattle.tree_law.specs.Freeing.{counts_of}
use Rattle.tree_law.specs.Refusals.{plain}
use Rattle.tree_law.specs.Steps.{needs}
use Rattle.tree_core.proofs.tree.Tree.push_freed_at.Goals as goal

pub returns-in-Err : goal.returns-in-Err
returns-in-Err c =
    let m = c.args.self.now.machine in let s = c.args.self.now.state in
    needs-refused m s (Rmdir c.args.path) (plain c.in-Err.field-0) (refusal-rmdir_some m s c.args.path c.in-Err.field-0 c.in-Err.ensures) ∙ ap (counts_of m) (sym c.requires)

pub returns-in-Ok : goal.returns-in-Ok
returns-in-Ok c =
    let m = c.args.self.now.machine in let s = c.args.self.now.state in
    let found = c.in-Ok.found in
    ap (λ path. needs m s (Rmdir path)) c.in-Ok.ensures.0
    ∙ needs-accepted m s (Rmdir (found_path found)) (refusal-found m s found c.in-Ok.ensures.1)
    ∙ ap (counts_of m) (sym c.push_freed.ensures)
