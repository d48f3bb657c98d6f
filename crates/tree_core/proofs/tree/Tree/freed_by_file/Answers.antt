use Rattle.tree_core.proofs.WrittenModes.{needs-other_file}
use Rattle.tree_core.proofs.tree.Tree.freed_by_file.Goals as goal

pub returns-in_default : goal.returns-in_default
returns-in_default c =
    let m = c.args.self.now.machine in let s = c.args.self.now.state in
    needs-other_file m s c.args.at.dir c.args.kind c.args.text.now c.in_default.not-Mode
