use Rattle.std.proofs.Common.{◌≡◌, List, [], ◌∷◌, ◌++◌, length, sym, ap, subst, ◌∙◌, arith}
use Rattle.script_ops.specs.Slots.{AreSlots, ops_in}
use Rattle.script_ops.specs.declared.op.Op.{Op}
use Rattle.script_ops.specs.declared.slot.Slot.{Slot}
use Rattle.script_ops.specs.declared.slot.Slot.TheVariants.{Command}
use Rattle.script_ops.proofs.SlotOps.{AreSlots-command, ops_in-command}
use Rattle.script_ops.proofs.ops.Ops.push_command.Goals as goal

pub invariant_of-self-2 : goal.invariant_of-self-2
invariant_of-self-2 c =
    let commands = c.self.inside.commands.items in
    let slots = c.self.inside.slots.items in
    let number : c.len-number.result ≡ length commands = omega (arith, c.len-number.ensures, c.self.inside.commands.ok.0) in
    let now : c.push_reserved.new.self.items ≡ slots ++ Command c.len-number.result ∷ [] = c.push_reserved.ensures.items ∙ ap (λ (ss : List Slot). ss ++ Command c.len-number.result ∷ []) c.reserve.ensures.items in
    subst (λ (cs : List Op). AreSlots cs c.push_reserved.new.self.items) (sym c.in_ok-push.ensures.items)
    (subst (AreSlots (commands ++ c.args.op ∷ [])) (sym now) (AreSlots-command commands c.args.op slots c.len-number.result number c.requires c.self.invariant))

pub returns-clause-ok : goal.returns-clause-ok
returns-clause-ok c =
    let commands = c.self.inside.commands.items in
    let slots = c.self.inside.slots.items in
    let number : c.len-number.result ≡ length commands = omega (arith, c.len-number.ensures, c.self.inside.commands.ok.0) in
    ap (λ (cs : List Op). ops_in cs c.push_reserved.new.self.items) c.in_ok-push.ensures.items
    ∙ ap (λ (ss : List Slot). ops_in (commands ++ c.args.op ∷ []) ss) (c.push_reserved.ensures.items ∙ ap (λ (ss : List Slot). ss ++ Command c.len-number.result ∷ []) c.reserve.ensures.items)
    ∙ ap (λ n. ops_in (commands ++ c.args.op ∷ []) (slots ++ Command n ∷ [])) number
    ∙ ops_in-command commands c.args.op slots c.self.invariant.there
    ∙ ap (λ (os : List Op). os ++ c.args.op ∷ []) c.self.view_is
