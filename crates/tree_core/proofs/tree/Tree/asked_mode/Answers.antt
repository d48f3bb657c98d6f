use Rattle.std.proofs.Common.{◌≡◌, Some, sym, ◌∙◌}
use Rattle.lists.proofs.Options.{option_map-none, option_map-some}
use Rattle.rc_base.specs.declared.replies.Why.TheVariants.{GroupLocked, UnknownMode}
use Rattle.tree_core.proofs.AskedModes.{is_present-is, refusal-locked, refusal-turn_some, refusal-unknown}
use Rattle.tree_core.specs.Modes.{against_turn}
use Rattle.command_parts.specs.Replies.{reply_to}
use Rattle.tree_law.specs.Refusals.{plain}
use Rattle.tree_law.specs.commands.Mode.{mode_in}
use Rattle.tree_core.proofs.tree.Tree.asked_mode.Goals as goal
use Rattle.std.proofs.Common.{true, false}

pub returns-then-is_named : goal.returns-then-is_named
returns-then-is_named c = is_present-is c.args.group.now.mode c.args.text.now true (sym c.is_named.ensures ∙ c.if-is_named.true)

pub returns-then-is_locked : goal.returns-then-is_locked
returns-then-is_locked c =
    let m = c.args.self.now.machine in let s = c.args.self.now.state in let g = c.args.group.now in let text = c.args.text.now in
    let other = is_present-is g.mode text false (sym c.is_named.ensures ∙ c.if-is_named.false) in
    record { reason = plain GroupLocked; is = refusal-locked m s g text other (sym c.is_locked.ensures ∙ c.if-is_locked.true); reply_is = c.refused.ensures }

pub returns-in_default : goal.returns-in_default
returns-in_default c =
    let m = c.args.self.now.machine in let s = c.args.self.now.state in let g = c.args.group.now in let text = c.args.text.now in
    let other = is_present-is g.mode text false (sym c.is_named.ensures ∙ c.if-is_named.false) in
    record { reason = plain UnknownMode; is = refusal-unknown m s g text other (sym c.is_locked.ensures ∙ c.if-is_locked.false) (sym c.mode_in.ensures ∙ c.in_default.is); reply_is = c.refused-in_default.ensures }

pub returns-in-Some-against_turn : goal.returns-in-Some-against_turn
returns-in-Some-against_turn c =
    let m = c.args.self.now.machine in let s = c.args.self.now.state in let g = c.args.group.now in let text = c.args.text.now in
    let other = is_present-is g.mode text false (sym c.is_named.ensures ∙ c.if-is_named.false) in
    let asked : mode_in text ≡ Some c.in-Some.mode = sym c.in-Some.ensures in
    let some = option_map-some reply_to (against_turn m s g c.in-Some.mode) c.in-Some-against_turn.reply (sym c.in-Some-against_turn.ensures) in
    record { reason = some.0; is = refusal-turn_some m s g text other (sym c.is_locked.ensures ∙ c.if-is_locked.false) c.in-Some.mode asked some.0 some.1; reply_is = sym some.2 }

pub returns-in-None : goal.returns-in-None
returns-in-None c =
    let m = c.args.self.now.machine in let s = c.args.self.now.state in let g = c.args.group.now in let text = c.args.text.now in
    record {
      other = is_present-is g.mode text false (sym c.is_named.ensures ∙ c.if-is_named.false);
      unlocked = sym c.is_locked.ensures ∙ c.if-is_locked.false;
      asked = sym c.in-Some.ensures;
      free = option_map-none reply_to (against_turn m s g c.in-Some.mode) (sym c.in-None.ensures);
    }
