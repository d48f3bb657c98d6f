use Rattle.std.proofs.Common.{refl, sym, subst, ap, ◌∙◌}
use Rattle.machine.specs.Ranges.{InRange}
use Rattle.tree_core.proofs.Commands.{Takes-leaves}
use Rattle.tree_core.proofs.FoundGroups.{find-control_at, is_control-control_at}
use Rattle.tree_core.proofs.KeptTables.{Keeps-of}
use Rattle.tree_core.proofs.WrittenModes as written
use Rattle.tree_core.specs.Tables.{tables}
use Rattle.tree_core.specs.Values.{TreeValue}
use Rattle.tree_core.proofs.tree.Tree.write_mode.Goals as goal

pub returns-in_default : goal.returns-in_default
returns-in_default c =
    let m = c.args.self.now.machine in let s = c.args.self.now.state in
    let none = sym c.control_in.ensures ∙ c.in_default.is in
    Takes-leaves (written.Leaves-nowhere m s c.args.at.dir c.args.text.now c.requires.writable c.args.looks.now none) c.answer.ensures.tree refl c.answer.ensures.reply
    (λ k. c.requires.nothing ∙ sym (written.after-nowhere m s c.args.at.dir c.args.text.now c.requires.writable k none))

pub change_mode-reply-requires-clause-there : goal.change_mode-reply-requires-clause-there
change_mode-reply-requires-clause-there c = find-control_at c.args.self.now.state c.args.at.dir c.in-Some.group (sym c.in-Some.ensures)

pub change_mode-reply-requires-clause-control : goal.change_mode-reply-requires-clause-control
change_mode-reply-requires-clause-control c = is_control-control_at c.args.self.now.state c.args.at.dir c.in-Some.group (sym c.in-Some.ensures)

pub change_mode-reply-requires-clause-looks : goal.change_mode-reply-requires-clause-looks
change_mode-reply-requires-clause-looks c =
    let m = c.args.self.now.machine in let s = c.args.self.now.state in
    written.length-looks m s c.args.at.dir c.args.text.now c.requires.writable c.in-Some.group (sym c.in-Some.ensures) c.args.looks.now c.requires.looks

pub change_mode-reply-requires-clause-sound : goal.change_mode-reply-requires-clause-sound
change_mode-reply-requires-clause-sound c =
    let t = c.self.inside in let m = c.args.self.now.machine in let s = c.args.self.now.state in
    let keeps = Keeps-of (tables t.groups t.tasks t.cpus t.classes t.rmids t.regions) c.self.view_is c.self.invariant in
    let range : InRange m = subst (λ (v : TreeValue). InRange v.machine) c.self.view_is t.machine.in_range in
    written.IsSound-accepted m s c.args.at.dir c.args.text.now c.requires.writable c.in-Some.group (sym c.in-Some.ensures) c.args.looks.now c.requires.looks range keeps.sound c.requires.short

pub returns : goal.returns
returns c =
    let m = c.args.self.now.machine in let s = c.args.self.now.state in let reply = c.change_mode-reply.result in let decides = c.change_mode-reply.ensures in
    Takes-leaves (written.Leaves-mode m s c.args.at.dir c.args.text.now c.requires.writable c.in-Some.group (sym c.in-Some.ensures) c.args.looks.now)
    (c.answer-2.ensures.tree ∙ ap (λ (v : TreeValue). record v { state = record v.state { status = reply } }) decides.tree) decides.reply c.answer-2.ensures.reply
    (λ k. decides.after ∙ sym (written.after-mode m s c.args.at.dir c.args.text.now c.requires.writable c.in-Some.group (sym c.in-Some.ensures) k))
