use Rattle.machine.specs.Maps.{parameters_of}
use Rattle.journal_text.proofs.Drops.{DropSays-rest, IsRest-drop, no_drop}
use Rattle.journal_text.proofs.whats.drop_of.Goals as goal

pub returns-in_err-number : goal.returns-in_err-number
returns-in_err-number c = rw c.from_residual.ensures (no_drop (parameters_of c.args.machine.now) c.args.slice c.args.rest.now c.in_err-number.ensures)

pub returns-in_err-line : goal.returns-in_err-line
returns-in_err-line c =
    let a = c.in_ok-number in
    rw c.from_residual-in_err-line.ensures (λ what is. c.in_err-line.ensures (DropSays-rest (parameters_of c.args.machine.now) c.args.slice a.number a.rest.now c.args.rest.now a.ensures what is).line)

pub returns-in_err-way : goal.returns-in_err-way
returns-in_err-way c =
    let a = c.in_ok-number in
    rw c.from_residual-in_err-way.ensures (λ what is. (let says = DropSays-rest (parameters_of c.args.machine.now) c.args.slice a.number a.rest.now c.args.rest.now a.ensures what is in c.in_err-way.ensures says.way says.way_is says.same))

pub returns : goal.returns
returns c =
    let a = c.in_ok-number in
    IsRest-drop (parameters_of c.args.machine.now) c.args.slice a.number a.rest.now c.args.rest.now c.in_ok-line.line c.in_ok-way.way a.ensures c.in_ok-line.ensures c.in_ok-way.ensures
