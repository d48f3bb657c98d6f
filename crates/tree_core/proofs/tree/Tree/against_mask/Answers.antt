use Rattle.std.proofs.Common.{Some, ap, ◌∙◌}
use Rattle.std.specs.Option.{option_map}
use Rattle.mode_rules.specs.declared.overlap.Overlap.{Overlap}
use Rattle.std.proofs.Common.{Result}
use Rattle.tree_core.proofs.Uses.{against_entry-same}
use Rattle.command_parts.specs.Replies.{reply_to}
use Rattle.tree_law.specs.commands.Schemata.{against_overlap}
use Rattle.tree_core.proofs.tree.Tree.against_mask.Goals as goal

pub returns-in-Ok : goal.returns-in-Ok
returns-in-Ok c =
    let v = c.args.self.now in let g = c.args.group.now in let a = c.args.a.now in
    ap (λ (r : Result (Unit {0}) Overlap). option_map reply_to (against_overlap a.domain r)) c.in-Ok.ensures ∙ ap (option_map reply_to) (against_entry-same v.machine v.state g a c.used-used.result c.used-used.ensures.same)

pub returns-in-Err : goal.returns-in-Err
returns-in-Err c =
    let v = c.args.self.now in let g = c.args.group.now in let a = c.args.a.now in
    ap Some c.overlap_refusal.ensures ∙ ap (λ (r : Result (Unit {0}) Overlap). option_map reply_to (against_overlap a.domain r)) c.in-Err.ensures ∙ ap (option_map reply_to) (against_entry-same v.machine v.state g a c.used-used.result c.used-used.ensures.same)
