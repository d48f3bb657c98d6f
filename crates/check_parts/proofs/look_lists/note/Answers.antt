use Rattle.std.proofs.Common.{◌≡◌, false, Option, None, Some, refl, sym, ◌∙◌, subst}
use Rattle.std.specs.Option.{is_some}
use Rattle.check_parts.proofs.KeptParts.{OnOk-map}
use Rattle.check_parts.proofs.NotedLooks.{AreNoted-look, AreNoted-other, AreNoted-unknown}
use Rattle.check_parts.specs.NotedLooks.{KeepsFirst}
use Rattle.script_ops.specs.Values.{op_at}
use Rattle.script_ops.specs.declared.op.Op.{Op}
use Rattle.check_parts.proofs.look_lists.note.Goals as goal

-- what is not there is none
is_some-None : (o : Option Op) → is_some o ≡ false → o ≡ None
is_some-None None is = refl
is_some-None (Some x) is = absurd cc

pub returns-in_default : goal.returns-in_default
returns-in_default c = λ before are. AreNoted-other c.args.script.now before c.args.looks.now.items c.args.noted.now c.args.entry.now are (sym c.looked_rmid.ensures ∙ c.in_default.is)

pub returns-then-is_none : goal.returns-then-is_none
returns-then-is_none c = λ before are. AreNoted-unknown c.args.script.now before c.args.looks.now.items c.args.noted.now c.args.entry.now are
    (is_some-None (op_at c.args.script.now c.args.entry.now.thread c.args.entry.now.op) (subst (λ (o : Option Op). is_some o ≡ false) c.op.ensures.op c.if-is_none.ensures))

pub returns : goal.returns
returns c =
    OnOk-map c.keep_first.result
    (λ keeps before are. AreNoted-look c.args.script.now before c.args.looks.now.items c.args.noted.now c.args.entry.now are c.keep_first.new.noted c.keep_first.new.looks.items c.in-Some.rmid
    c.look_number_of-number.ensures.op c.look_number_of-number.ensures.rmid (sym c.looked_rmid.ensures ∙ c.in-Some.is)
    (subst (λ n. KeepsFirst c.args.noted.now c.keep_first.new.noted c.args.looks.now.items c.keep_first.new.looks.items c.args.entry.now n) c.look_number_of-number.ensures.number keeps))
    c.keep_first.ensures
