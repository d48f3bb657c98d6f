use Rattle.std.proofs.Common.{ℕ, not, Some, ap, ◌∙◌}
use Rattle.mode_rules.specs.Overlaps.{is_apart}
use Rattle.tree_core.proofs.Uses.{is_apart-same}
use Rattle.tree_law.specs.Space.{used_in}
use Rattle.tree_core.proofs.tree.Tree.overlaps_in.Goals as goal

pub returns : goal.returns
returns c =
    let v = c.args.self.now in let g = c.args.group.now in let used = c.used-used.result in
    ap not (c.may_turn_exclusive.ensures ∙ ap (λ (mask : ℕ). is_apart mask used) c.mask_in.ensures.mask ∙ is_apart-same _ used (used_in v.machine v.state (Some g.gid) c.args.domain) c.used-used.ensures.same)
