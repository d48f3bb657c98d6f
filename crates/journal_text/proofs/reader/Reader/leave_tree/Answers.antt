use Rattle.std.proofs.Common.{refl}
use Rattle.journal_text.proofs.Steps.{HasTaken-tree_left, TakesLine-step}
use Rattle.journal_text.specs.States.{state_at}
use Rattle.journal_text.proofs.reader.Reader.leave_tree.Goals as goal

pub returns-in-Some : goal.returns-in-Some
returns-in-Some g c =
    let script = c.args.weighed.now.script.now in
    let line = c.args.line.now in
    let from = c.args.self.now.position in
    let keeps = g.K.Keeper.keeps c.args.self.now.keeper script in
    TakesLine-step script line from keeps c.in-Some.next keeps (λ parts. parts) (λ parts kept. kept)
    (λ parts. HasTaken-tree_left script line (state_at from parts) (state_at c.in-Some.next parts) c.requires.position c.in-Some.ensures refl)
