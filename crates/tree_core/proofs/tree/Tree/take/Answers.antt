use Rattle.std.proofs.Common.{None, Some, Bool, cond, refl, sym, subst, ap, ◌∙◌}
use Rattle.rc_base.specs.declared.replies.Why.TheVariants.{NoSuchPath}
use Rattle.script_ops.specs.Fits.{Fits}
use Rattle.script_ops.specs.declared.op.Op.TheVariants as ops
use Rattle.tree_core.proofs.Commands.{Takes-quiet, Takes-same}
use Rattle.tree_core.proofs.Outcomes.{after-accepted, after-nothing, refusal-drop_line, refusal-flush, refusal-list, refusal-read}
use Rattle.tree_core.proofs.ReadCounts.{refusal-access}
use Rattle.tree_law.specs.Refusals.{plain, reply_of}
use Rattle.tree_law.specs.State.{tasks_of}
use Rattle.tree_core.proofs.tree.Tree.take.Goals as goal

pub returns-in-Mkdir : goal.returns-in-Mkdir
returns-in-Mkdir c = Takes-same c.in-Mkdir.is c.requires.nothing (c.mkdir.ensures c.args.looks.now)

pub returns-in-Rmdir : goal.returns-in-Rmdir
returns-in-Rmdir c = Takes-same c.in-Rmdir.is refl c.rmdir.ensures

pub returns-in-Write : goal.returns-in-Write
returns-in-Write c = Takes-same (c.in-Write.is ∙ ap (ops.Write c.in-Write.path) (sym c.as_slice.ensures)) refl c.write.ensures

pub returns-in-Read : goal.returns-in-Read
returns-in-Read c =
    let v = c.args.self.now in let op = ops.Read c.in-Read.path in
    Takes-same c.in-Read.is c.requires.nothing (Takes-quiet op c.args.looks.now v refl
    (c.found.ensures ∙ ap (λ (b : Bool). reply_of (cond b None (Some (plain NoSuchPath)))) c.is_file.ensures ∙ ap reply_of (sym (refusal-read v.machine v.state c.in-Read.path)))
    (λ k is. sym (after-nothing v.machine v.state k op refl)))

pub returns-in-List : goal.returns-in-List
returns-in-List c =
    let v = c.args.self.now in let op = ops.List c.in-List.path in
    Takes-same c.in-List.is c.requires.nothing (Takes-quiet op c.args.looks.now v refl
    (c.found-in-List.ensures ∙ ap (λ (b : Bool). reply_of (cond b None (Some (plain NoSuchPath)))) c.is_directory.ensures ∙ ap reply_of (sym (refusal-list v.machine v.state c.in-List.path)))
    (λ k is. sym (after-nothing v.machine v.state k op refl)))

pub returns-in-Flush : goal.returns-in-Flush
returns-in-Flush c =
    let v = c.args.self.now in let domain = c.in-Flush.domain in
    Takes-same c.in-Flush.is refl (Takes-quiet (ops.Flush domain) c.args.looks.now v refl (sym (ap reply_of (refusal-flush v.machine v.state domain)))
    (λ k is. c.flush.ensures.after ∙ sym (after-accepted v.machine v.state k (ops.Flush domain) (refusal-flush v.machine v.state domain))))

pub returns-in-Tick : goal.returns-in-Tick
returns-in-Tick c = Takes-same c.in-Tick.is c.requires.nothing c.tick.ensures

pub touch-requires-clause-task : goal.touch-requires-clause-task
touch-requires-clause-task c =
    let v = c.args.self.now in
    let fits : Fits v.machine (tasks_of v.state) (ops.Touch c.in-Touch.cpu c.in-Touch.path c.in-Touch.task c.in-Touch.offset) = subst (Fits v.machine (tasks_of v.state)) c.in-Touch.is c.requires.fits in
    fits.0

pub touch-requires-clause-cpu : goal.touch-requires-clause-cpu
touch-requires-clause-cpu c =
    let v = c.args.self.now in
    let fits : Fits v.machine (tasks_of v.state) (ops.Touch c.in-Touch.cpu c.in-Touch.path c.in-Touch.task c.in-Touch.offset) = subst (Fits v.machine (tasks_of v.state)) c.in-Touch.is c.requires.fits in
    fits.1

pub returns-in-Touch : goal.returns-in-Touch
returns-in-Touch c = Takes-same c.in-Touch.is refl (c.touch.ensures c.args.looks.now)

pub returns-in-DropLine : goal.returns-in-DropLine
returns-in-DropLine c =
    let v = c.args.self.now in let addr = c.in-DropLine.addr in
    Takes-same c.in-DropLine.is refl (Takes-quiet (ops.DropLine addr) c.args.looks.now v refl (sym (ap reply_of (refusal-drop_line v.machine v.state addr)))
    (λ k is. c.drop_line.ensures.after ∙ sym (after-accepted v.machine v.state k (ops.DropLine addr) (refusal-drop_line v.machine v.state addr))))

pub returns-in-DropRegion : goal.returns-in-DropRegion
returns-in-DropRegion c = Takes-same c.in-DropRegion.is refl (c.drop_region.ensures c.args.looks.now)

pub returns-in-Access : goal.returns-in-Access
returns-in-Access c =
    let v = c.args.self.now in let op = ops.Access c.in-Access.task c.in-Access.cpu c.in-Access.addr in
    Takes-same c.in-Access.is c.requires.nothing (Takes-quiet op c.args.looks.now v refl
    (sym (ap reply_of (refusal-access v.machine v.state c.in-Access.task c.in-Access.cpu c.in-Access.addr)))
    (λ k is. sym (after-nothing v.machine v.state k op refl)))
