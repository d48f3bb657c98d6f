use Rattle.std.proofs.Common.{◌≡◌, rules}
use Rattle.script_text.specs.States.{state_of}
use Rattle.script_text.proofs.TakenLines.{TakesLine-usual}
use Rattle.script_text.specs.declared.kind.LinePosition.TheVariants.{Thread}
use Rattle.script_text.proofs.reader.Reader.take_line.Goals as goal

pub returns-in-Some-clause-said : goal.returns-in-Some-clause-said
returns-in-Some-clause-said c =
    let thread : c.args.self.now.place ≡ Thread = search rules in
    TakesLine-usual c.usual_line.result (state_of c.args.self.now) (state_of c.usual_line.new.self) c.args.text.now c.in-Some.task c.in-Some.cpu c.in-Some.addr c.in-Some.rest.now thread c.in-Some.ensures c.usual_line.ensures.said
