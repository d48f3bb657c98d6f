use Rattle.std.proofs.Common.{refl, sym, subst, ap, ◌∙◌}
use Rattle.machine.specs.Ranges.{InRange}
use Rattle.tree_core.proofs.Commands.{Takes-leaves}
use Rattle.tree_core.proofs.KeptTables.{Keeps-of}
use Rattle.tree_core.proofs.WrittenCpus as written
use Rattle.tree_core.specs.Tables.{tables}
use Rattle.tree_core.specs.Values.{TreeValue}
use Rattle.tree_core.proofs.tree.Tree.write_cpus.Goals as goal

pub returns-in_default : goal.returns-in_default
returns-in_default c = λ looks.
    let m = c.args.self.now.machine in let s = c.args.self.now.state in
    Takes-leaves (written.Leaves-nowhere m s c.args.at.dir c.args.kind c.args.text.now c.requires.kind c.requires.writable looks (sym c.group_in.ensures ∙ c.in_default.is)) c.answer.ensures.tree refl c.answer.ensures.reply
    (λ k. sym (written.after-cpus m s c.args.at.dir c.args.kind c.args.text.now c.requires.kind c.requires.writable k))

pub join_cpus-reply-requires : goal.join_cpus-reply-requires
join_cpus-reply-requires c =
    let t = c.self.inside in let m = c.args.self.now.machine in let s = c.args.self.now.state in
    let keeps = Keeps-of (tables t.groups t.tasks t.cpus t.classes t.rmids t.regions) c.self.view_is c.self.invariant in
    let range : InRange m = subst (λ (v : TreeValue). InRange v.machine) c.self.view_is t.machine.in_range in
    record { sound = written.StaysSound-cpus m s c.args.at.dir c.args.kind c.args.text.now c.requires.kind c.requires.writable c.in-Some.group (sym c.in-Some.ensures) range keeps.sound c.requires.short }

pub returns : goal.returns
returns c = λ looks.
    let m = c.args.self.now.machine in let s = c.args.self.now.state in let reply = c.join_cpus-reply.result in let decides = c.join_cpus-reply.ensures in
    Takes-leaves (written.Leaves-cpus m s c.args.at.dir c.args.kind c.args.text.now c.requires.kind c.requires.writable c.in-Some.group (sym c.in-Some.ensures) looks)
    (c.answer-2.ensures.tree ∙ ap (λ (v : TreeValue). record v { state = record v.state { status = reply } }) decides.tree) decides.reply c.answer-2.ensures.reply
    (λ k. sym (written.after-cpus m s c.args.at.dir c.args.kind c.args.text.now c.requires.kind c.requires.writable k))
