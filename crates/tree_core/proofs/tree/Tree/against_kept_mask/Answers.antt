use Rattle.std.proofs.Common.{ℕ, Result, Some, ap, ◌∙◌}
use Rattle.std.specs.Option.{option_map}
use Rattle.group_tree.specs.Records.{mask_in}
use Rattle.mode_rules.specs.Overlaps.{leaving_overlap}
use Rattle.mode_rules.specs.declared.overlap.Overlap.{Overlap}
use Rattle.tree_core.proofs.Uses.{leaving_overlap-same}
use Rattle.command_parts.specs.Replies.{reply_to}
use Rattle.tree_law.specs.Space.{used_in}
use Rattle.tree_law.specs.commands.Schemata.{against_overlap}
use Rattle.tree_core.proofs.tree.Tree.against_kept_mask.Goals as goal

pub returns-in-Ok : goal.returns-in-Ok
returns-in-Ok c =
    let v = c.args.self.now in let g = c.args.group.now in let used = used_in v.machine v.state (Some g.gid) c.args.domain in
    ap (λ (r : Result (Unit {0}) Overlap). option_map reply_to (against_overlap c.args.domain r)) (c.in-Ok.ensures ∙ ap (λ (mask : ℕ). leaving_overlap mask c.used-used.result) c.mask_in.ensures.mask ∙ leaving_overlap-same (mask_in c.args.domain g) c.used-used.result used c.used-used.ensures.same)

pub returns-in-Err : goal.returns-in-Err
returns-in-Err c =
    let v = c.args.self.now in let g = c.args.group.now in let used = used_in v.machine v.state (Some g.gid) c.args.domain in
    ap Some c.overlap_refusal.ensures ∙ ap (λ (r : Result (Unit {0}) Overlap). option_map reply_to (against_overlap c.args.domain r)) (c.in-Err.ensures ∙ ap (λ (mask : ℕ). leaving_overlap mask c.used-used.result) c.mask_in.ensures.mask ∙ leaving_overlap-same (mask_in c.args.domain g) c.used-used.result used c.used-used.ensures.same)
