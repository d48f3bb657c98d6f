use Rattle.std.proofs.Common.{is_some, ap, arith, subst, sym}
use Rattle.std.proofs.lemmas.Bool.{true≢false}
use Rattle.machine.specs.declared.parameters.Parameters.{Parameters}
use Rattle.run_law.proofs.AccessQuotas.{HaveGrown-access, HaveGrown-command, access_cpu-lt}
use Rattle.run_law.proofs.rooms.add_access.Goals as goal
use Rattle.run_law.specs.Quotas.{HaveGrown, line_quota}

pub add_line-requires-clause-cpu : goal.add_line-requires-clause-cpu
add_line-requires-clause-cpu c =
    let s = c.args.script.now in
    omega (arith, access_cpu-lt s.machine s.tasks c.args.ops.now c.args.i _ c.in-Some.cpu c.in-Some.addr c.requires.fit c.requires.within c.in-Some.ensures.is, ap (λ (m : Parameters). m.cpus) c.machine.ensures)

pub returns-in-Some : goal.returns-in-Some
returns-in-Some c = λ d.
    HaveGrown-access c.args.script.now.machine c.args.ops.now c.args.i _ c.in-Some.cpu c.in-Some.addr d c.args.rooms.now c.add_line.new.rooms c.requires.within c.in-Some.ensures.is
    (subst (λ (m : Parameters). HaveGrown (λ s. line_quota m s c.in-Some.cpu c.in-Some.addr) 257 c.args.rooms.now c.add_line.new.rooms) c.machine.ensures c.add_line.ensures)

pub returns-in-None : goal.returns-in-None
returns-in-None c = λ d. HaveGrown-command c.args.script.now.machine c.args.ops.now c.args.i d c.args.rooms.now c.requires.within (λ task cpu addr at. true≢false (sym (ap is_some (c.in-None.ensures.there task cpu addr at))))
