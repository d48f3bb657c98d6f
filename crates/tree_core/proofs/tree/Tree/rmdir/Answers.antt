use Rattle.std.proofs.Common.{◌≡◌, length, refl, subst, ap}
use Rattle.path_names.specs.declared.path_ref.PathRef.{PathRef}
use Rattle.script_ops.specs.declared.op.Op.TheVariants.{Rmdir}
use Rattle.tree_core.proofs.Commands.{Takes-refused, Takes-same}
use Rattle.tree_core.proofs.Outcomes.{refusal-rmdir_some}
use Rattle.tree_core.proofs.RemovablePaths.{refusal-found}
use Rattle.tree_law.specs.Refusals.{plain}
use Rattle.tree_law.specs.Steps.{needs}
use Rattle.tree_core.proofs.tree.Tree.rmdir.Goals as goal

pub remove-requires-clause-accepted : goal.remove-requires-clause-accepted
remove-requires-clause-accepted c = refusal-found c.args.self.now.machine c.args.self.now.state c.in-Ok.found c.in-Ok.ensures.1

pub remove-requires-clause-looks : goal.remove-requires-clause-looks
remove-requires-clause-looks c = subst (λ (path : PathRef). length c.args.looks.now ≡ length (needs c.args.self.now.machine c.args.self.now.state (Rmdir path))) c.in-Ok.ensures.0 c.requires.looks

pub returns-in-Ok : goal.returns-in-Ok
returns-in-Ok c = Takes-same (ap Rmdir c.in-Ok.ensures.0) refl c.remove.ensures

pub returns-in-Err : goal.returns-in-Err
returns-in-Err c =
    let v = c.args.self.now in
    Takes-refused (Rmdir c.args.path) c.args.looks.now v (plain c.in-Err.why) (refusal-rmdir_some v.machine v.state c.args.path c.in-Err.why c.in-Err.ensures) refl c.refused.ensures c.requires.nothing
