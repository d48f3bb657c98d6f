use Rattle.std.proofs.Common.{◌≡◌, None, length, subst, arith}
use Rattle.script_ops.specs.declared.op.Op.{Op}
use Rattle.script_ops.specs.declared.op.Op.TheVariants.{Read}
use Rattle.tree_law.specs.Steps.{needs, refusal}
use Rattle.file_view.proofs.Needs.{length-needs_read}
use Rattle.file_view.proofs.Readings.{is_directory-accepted, is_file-accepted}
use Rattle.file_view.proofs.view.text.Goals as goal

pub push_read-requires-clause-there : goal.push_read-requires-clause-there
push_read-requires-clause-there c =
    is_file-accepted c.args.tree.now.machine c.args.tree.now.state c.in-Read.path (subst (λ (op : Op). refusal c.args.tree.now.machine c.args.tree.now.state op ≡ None) c.in-Read.is c.requires.accepted)

pub push_read-requires-clause-few : goal.push_read-requires-clause-few
push_read-requires-clause-few c =
    let m = c.args.tree.now.machine in
    let s = c.args.tree.now.state in
    let count : length c.args.looks.now ≡ length (needs m s (Read c.in-Read.path)) = subst (λ (op : Op). length c.args.looks.now ≡ length (needs m s op)) c.in-Read.is c.requires.looks in
    omega (arith, count, length-needs_read m s c.in-Read.path)

pub push_listed-requires-clause-there : goal.push_listed-requires-clause-there
push_listed-requires-clause-there c =
    is_directory-accepted c.args.tree.now.machine c.args.tree.now.state c.in-List.path (subst (λ (op : Op). refusal c.args.tree.now.machine c.args.tree.now.state op ≡ None) c.in-List.is c.requires.accepted)
