use Rattle.std.proofs.Common.{ℕ, map, refl, ap, ◌∙◌}
use Rattle.std.specs.List.{range_with_len}
use Rattle.script_ops.specs.declared.op.Op.TheVariants.{Rmdir}
use Rattle.tree_core.proofs.Commands.{Takes-accepted}
use Rattle.tree_core.specs.Found.{found_path}
use Rattle.tree_core.specs.Values.{TreeValue}
use Rattle.tree_law.specs.declared.follow.Follow.TheVariants as follows
use Rattle.tree_core.proofs.tree.Tree.remove.Goals as goal

pub returns : goal.returns
returns c = Takes-accepted (Rmdir (found_path c.args.found)) c.args.looks.now c.args.self.now c.requires.accepted c.remove_group.ensures.tree refl
    (λ k is. c.raise_all.ensures.raises ∙ ap (λ (v : TreeValue). map (λ (d : ℕ). follows.Raise d) (range_with_len 0 v.machine.domains)) c.self.view_is)
