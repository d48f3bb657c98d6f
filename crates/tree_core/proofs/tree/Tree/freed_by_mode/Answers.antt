use Rattle.std.proofs.Common.{Option, Ok, sym, subst, ap, ◌∙◌}
use Rattle.rc_base.specs.declared.names.Mode.{Mode}
use Rattle.tree_core.proofs.AskedModes as asked
use Rattle.tree_core.proofs.WrittenModes as written
use Rattle.tree_core.specs.Modes.{AsksMode, Stays, TurnsTo}
use Rattle.tree_law.specs.Freeing.{counts_of}
use Rattle.tree_core.proofs.tree.Tree.freed_by_mode.Goals as goal

pub returns-in_default : goal.returns-in_default
returns-in_default c =
    let m = c.args.self.now.machine in let s = c.args.self.now.state in
    written.needs-nowhere m s c.args.at.dir c.args.text.now c.requires.writable (sym c.control_in.ensures ∙ c.in_default.is)

pub returns-in-Ok-Some : goal.returns-in-Ok-Some
returns-in-Ok-Some c =
    let m = c.args.self.now.machine in let s = c.args.self.now.state in let g = c.in-Some.group in
    let turns : TurnsTo m s g c.args.text.now c.in-Ok-Some.mode = subst (λ (o : Option Mode). AsksMode m s g c.args.text.now (Ok o)) c.in-Ok-Some.field-0-is c.in-Ok-Some.ensures in
    written.needs-turns m s c.args.at.dir c.args.text.now c.requires.writable g (sym c.in-Some.ensures) c.in-Ok-Some.mode turns ∙ ap (counts_of m) (sym c.freed_by.ensures)

pub returns-in-Ok-None : goal.returns-in-Ok-None
returns-in-Ok-None c =
    let m = c.args.self.now.machine in let s = c.args.self.now.state in let g = c.in-Some.group in
    let stays : Stays g c.args.text.now = subst (λ (o : Option Mode). AsksMode m s g c.args.text.now (Ok o)) c.in-Ok-None.field-0-is c.in-Ok-None.ensures in
    written.needs-mode_none m s c.args.at.dir c.args.text.now c.requires.writable g (sym c.in-Some.ensures) (asked.freed-stays m s g c.args.text.now stays)

pub returns-in-Err : goal.returns-in-Err
returns-in-Err c =
    let m = c.args.self.now.machine in let s = c.args.self.now.state in let g = c.in-Some.group in
    written.needs-mode_refused m s c.args.at.dir c.args.text.now c.requires.writable g (sym c.in-Some.ensures) c.in-Err.ensures.reason c.in-Err.ensures.is
