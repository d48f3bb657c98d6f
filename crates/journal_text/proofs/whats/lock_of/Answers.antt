use Rattle.machine.specs.Maps.{parameters_of}
use Rattle.journal_text.proofs.Rests.{IsRest-lock, lock_says, no_lock}
use Rattle.journal_text.proofs.whats.lock_of.Goals as goal

pub returns-in_err-bits : goal.returns-in_err-bits
returns-in_err-bits c = rw c.from_residual.ensures (no_lock (parameters_of c.args.machine.now) c.args.slice c.args.rest.now c.in_err-bits.ensures)

pub returns-in_err-mask : goal.returns-in_err-mask
returns-in_err-mask c =
    let a = c.in_ok-bits in
    rw c.from_residual-in_err-mask.ensures (λ what is. c.in_err-mask.ensures (lock_says (parameters_of c.args.machine.now) c.args.slice a.bits a.number c.args.rest.now a.ensures what is).0)

pub returns-in_err-first_line : goal.returns-in_err-first_line
returns-in_err-first_line c =
    let a = c.in_ok-bits in
    rw c.from_residual-in_err-first_line.ensures (λ what is. c.in_err-first_line.ensures (lock_says (parameters_of c.args.machine.now) c.args.slice a.bits a.number c.args.rest.now a.ensures what is).1)

pub returns : goal.returns
returns c =
    let a = c.in_ok-bits in
    IsRest-lock (parameters_of c.args.machine.now) c.args.slice a.bits a.number c.args.rest.now c.in_ok-mask.mask c.in_ok-first_line.first_line a.ensures c.in_ok-mask.ensures c.in_ok-first_line.ensures
