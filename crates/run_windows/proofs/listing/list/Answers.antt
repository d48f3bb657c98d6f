use Rattle.std.proofs.Common.{ap, arith}
use Rattle.machine.specs.declared.parameters.Parameters.{Parameters}
use Rattle.run_windows.proofs.WindowSteps.{AreWindowsOf-before}
use Rattle.run_windows.proofs.listing.list.Goals as goal

pub returns : goal.returns
returns c =
    let domains = ap (λ (p : Parameters). p.domains) c.machine.ensures in
    let stop = c.loop-domain-test.false in
    AreWindowsOf-before c.args.run.now.script.now c.args.run.now.journals.now c.loop-domain.domain c.loop-domain.windows.items (omega (arith, stop, domains)) c.loop-domain.invariant
