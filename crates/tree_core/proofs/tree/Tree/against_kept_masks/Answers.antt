use Rattle.std.proofs.Common.{sym, ap, ◌∙◌, arith}
use Rattle.std.specs.Option.{option_map}
use Rattle.tree_core.proofs.KeptMasks.{from-all, from-none, from-some}
use Rattle.command_parts.specs.Replies.{reply_to}
use Rattle.tree_core.specs.Values.{TreeValue}
use Rattle.tree_core.proofs.tree.Tree.against_kept_masks.Goals as goal

pub returns-then-is_some : goal.returns-then-is_some
returns-then-is_some c =
    let v = c.args.self.now in let g = c.args.group.now in
    let domains = ap (λ (v : TreeValue). v.machine.domains) c.self.view_is in
    from-some v.machine v.state g c.loop-domain.domain v.machine.domains c.against_kept_mask-against.result (omega (arith, domains)) c.against_kept_mask-against.ensures (sym c.is_some.ensures ∙ c.if-is_some.true) ∙ ap (option_map reply_to) c.loop-domain.invariant

pub loop-domain-preserved : goal.loop-domain-preserved
loop-domain-preserved c =
    let v = c.args.self.now in let g = c.args.group.now in
    let domains = ap (λ (v : TreeValue). v.machine.domains) c.self.view_is in
    sym (from-none v.machine v.state g c.loop-domain.domain v.machine.domains c.against_kept_mask-against.result (omega (arith, domains)) c.against_kept_mask-against.ensures (sym c.is_some.ensures ∙ c.if-is_some.false)) ∙ c.loop-domain.invariant

pub returns : goal.returns
returns c =
    let v = c.args.self.now in let g = c.args.group.now in
    let domains = ap (λ (v : TreeValue). v.machine.domains) c.self.view_is in
    ap (option_map reply_to) (sym (from-all v.machine v.state g c.loop-domain.domain v.machine.domains (omega (arith, domains))) ∙ c.loop-domain.invariant)
