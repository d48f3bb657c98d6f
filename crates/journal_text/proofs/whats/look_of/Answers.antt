use Rattle.std.proofs.Common.{rules}
use Rattle.machine.specs.Maps.{parameters_of}
use Rattle.journal_text.proofs.Rests.{IsRest-look, look_says, no_look}
use Rattle.journal_text.proofs.whats.look_of.Goals as goal

pub returns-in_err-id : goal.returns-in_err-id
returns-in_err-id c = rw c.from_residual.ensures (no_look (parameters_of c.args.machine.now) c.args.slice c.args.rest.now c.in_err-id.ensures)

pub returns-in_err-rmid : goal.returns-in_err-rmid
returns-in_err-rmid c =
    let a = c.in_ok-id in
    rw c.from_residual-in_err-rmid.ensures (λ what is. c.in_err-rmid.ensures (look_says (parameters_of c.args.machine.now) c.args.slice a.id a.lines c.args.rest.now a.ensures what is))

pub returns : goal.returns
returns c =
    let a = c.in_ok-id in
    IsRest-look (parameters_of c.args.machine.now) c.args.slice a.id a.lines c.args.rest.now c.in_ok-rmid.rmid a.ensures c.in_ok-rmid.ensures (search rules)
