use Rattle.std.proofs.Common.{sym, ap, ◌∙◌}
use Rattle.script_ops.specs.declared.op.Op.TheVariants.{Write}
use Rattle.tree_core.proofs.Commands.{Takes-refused}
use Rattle.tree_core.proofs.WrittenMasks.{refusal-write_path}
use Rattle.tree_core.proofs.WrittenPaths.{with_status-path}
use Rattle.tree_law.specs.Refusals.{plain}
use Rattle.tree_law.specs.State.{State}
use Rattle.tree_core.proofs.tree.Tree.write.Goals as goal

pub returns-in-Err : goal.returns-in-Err
returns-in-Err c =
    let v = c.args.self.now in
    Takes-refused (Write c.args.path c.args.text.now) c.args.looks.now v (plain c.in-Err.why) (refusal-write_path v.machine v.state c.args.path c.args.text.now c.in-Err.why c.in-Err.ensures)
    (c.answer.ensures.tree ∙ ap (λ r. record v { state = record v.state { status = r } }) c.refused.ensures
    ∙ ap (λ (s : State). record v { state = s }) (sym (with_status-path v.state c.args.path c.args.text.now _ c.in-Err.why c.in-Err.ensures)))
    (c.answer.ensures.reply ∙ c.refused.ensures) c.requires.nothing
