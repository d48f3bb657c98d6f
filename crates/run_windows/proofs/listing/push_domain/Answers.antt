use Rattle.std.proofs.Common.{◌<◌, sym, subst, ap, arith}
use Rattle.machine.specs.declared.parameters.Parameters.{Parameters}
use Rattle.run_windows.proofs.SiteOrder.{site}
use Rattle.run_windows.proofs.WindowSteps.{AreWindowsBefore-domain}
use Rattle.run_windows.specs.AllWindows.{AreWindowsBefore}
use Rattle.run_replay.specs.declared.run.Run.{Run}
use Rattle.run_windows.proofs.listing.push_domain.Goals as goal

pub loop-slice-init : goal.loop-slice-init
loop-slice-init c = subst (λ (r : Run). AreWindowsBefore r.script.now r.journals.now (site c.args.domain 0 0 0) c.args.windows.now.items) (sym c.in_ok-timeline.ensures.run) c.requires.before

pub push_slice-requires-clause-slice : goal.push_slice-requires-clause-slice
push_slice-requires-clause-slice c =
    let slices = ap (λ (p : Parameters). p.slices) c.machine.ensures in
    let within = c.loop-slice-test.true in
    subst (λ (r : Run). c.loop-slice.slice < r.script.now.machine.slices) (sym c.in_ok-timeline.ensures.run) (omega (arith, within, slices))

pub returns : goal.returns
returns c =
    let slices = ap (λ (p : Parameters). p.slices) c.machine.ensures in
    let stop = c.loop-slice-test.false in
    let here = subst (λ (r : Run). AreWindowsBefore r.script.now r.journals.now (site c.args.domain c.loop-slice.slice 0 0) c.loop-slice.windows.items) c.in_ok-timeline.ensures.run c.loop-slice.invariant in
    AreWindowsBefore-domain c.args.run.now.script.now c.args.run.now.journals.now c.args.domain c.loop-slice.slice c.loop-slice.windows.items (omega (arith, stop, slices)) here
