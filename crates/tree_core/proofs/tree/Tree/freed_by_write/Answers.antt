use Rattle.script_ops.specs.declared.op.Op.TheVariants.{Write}
use Rattle.tree_core.proofs.Outcomes.{needs-refused}
use Rattle.tree_core.proofs.WrittenMasks.{refusal-write_path}
use Rattle.tree_law.specs.Refusals.{plain}
use Rattle.tree_core.proofs.tree.Tree.freed_by_write.Goals as goal

pub returns-in-Err : goal.returns-in-Err
returns-in-Err c =
    let m = c.args.self.now.machine in let s = c.args.self.now.state in
    needs-refused m s (Write c.args.path c.args.text.now) (plain c.in-Err.field-0) (refusal-write_path m s c.args.path c.args.text.now c.in-Err.field-0 c.in-Err.ensures)
