use Rattle.std.proofs.Common.{◌≡◌, None, Some, refl, sym, ap, ◌∙◌}
use Rattle.path_names.specs.declared.files.FileKind.TheVariants.{MaxThreshold}
use Rattle.path_names.specs.declared.path_ref.PathRef.TheVariants.{File}
use Rattle.rc_base.specs.declared.replies.Reply.TheVariants as replies
use Rattle.rc_base.specs.declared.replies.Why.TheVariants.{BadThreshold}
use Rattle.script_ops.specs.declared.op.Op.TheVariants.{Write}
use Rattle.tree_core.proofs.Commands.{Takes-accepted, Takes-refused}
use Rattle.tree_core.proofs.WrittenThresholds as written
use Rattle.tree_core.specs.Values.{TreeValue}
use Rattle.tree_law.specs.Refusals.{plain}
use Rattle.tree_law.specs.State.{State}
use Rattle.tree_law.specs.commands.Threshold.{threshold_in}
use Rattle.tree_core.proofs.tree.Tree.write_threshold.Goals as goal

pub put_threshold-requires : goal.put_threshold-requires
put_threshold-requires c =
    let m = c.args.self.now.machine in
    let read : threshold_in m c.args.text.now ≡ Some c.in-Some.bytes = ap (λ (v : TreeValue). threshold_in v.machine c.args.text.now) (sym c.self.view_is) ∙ sym c.in-Some.ensures in
    record { few = written.threshold_in-le m c.args.text.now c.in-Some.bytes read }

pub returns-in-Some : goal.returns-in-Some
returns-in-Some c = λ looks.
    let v = c.args.self.now in let op = Write (File c.args.dir MaxThreshold) c.args.text.now in
    let read : threshold_in v.machine c.args.text.now ≡ Some c.in-Some.bytes = ap (λ (w : TreeValue). threshold_in w.machine c.args.text.now) (sym c.self.view_is) ∙ sym c.in-Some.ensures in
    Takes-accepted op looks v (written.refusal-good v.machine v.state c.args.dir c.args.text.now c.requires.writable c.in-Some.bytes read)
    (c.put_threshold.ensures.tree ∙ ap (λ (s : State). record v { state = record s { status = replies.Ok } }) (sym (written.accepted-threshold v.machine v.state c.args.dir c.args.text.now c.requires.writable looks c.in-Some.bytes read)))
    c.put_threshold.ensures.reply (λ k is. sym (written.after_accepted-threshold v.machine v.state k c.args.dir c.args.text.now))

pub returns-in-None : goal.returns-in-None
returns-in-None c = λ looks.
    let v = c.args.self.now in let op = Write (File c.args.dir MaxThreshold) c.args.text.now in
    let read : threshold_in v.machine c.args.text.now ≡ None = ap (λ (w : TreeValue). threshold_in w.machine c.args.text.now) (sym c.self.view_is) ∙ sym c.in-None.ensures in
    Takes-refused op looks v (plain BadThreshold) (written.refusal-bad v.machine v.state c.args.dir c.args.text.now c.requires.writable read)
    (c.answer.ensures.tree ∙ ap (λ r. record v { state = record v.state { status = r } }) c.refused.ensures ∙ ap (λ (s : State). record v { state = s }) (sym (written.left-threshold v.state c.args.dir c.args.text.now _)))
    (c.answer.ensures.reply ∙ c.refused.ensures) refl
