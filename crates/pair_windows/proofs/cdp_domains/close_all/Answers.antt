use Rattle.std.proofs.Common.{◌+◌, get_or, sym, subst, arith}
use Rattle.pair_windows.proofs.CdpDomains.{HasFoundAll-closed, IsClosable-walked, IsComplete-done}
use Rattle.pair_windows.proofs.Turns.{Each-turned, Turn-more, Turn-none}
use Rattle.pair_windows.specs.CdpWalks.{HasFoundAll, IsDoneAt, IsWalkedIn}
use Rattle.pair_windows.specs.declared.cdp_walks.CdpWalk.{CdpWalk}
use Rattle.pair_windows.proofs.cdp_domains.close_all.Goals as goal

pub loop-walk-init : goal.loop-walk-init
loop-walk-init c = Turn-none (IsDoneAt c.args.run.now c.args.epoch) (HasFoundAll c.args.run.now) c.args.walks.now c.requires.done

pub close-requires-clause-can : goal.close-requires-clause-can
close-requires-clause-can c =
    let run = c.args.run.now in
    let epoch = c.args.epoch in
    let i = c.loop-walk.walk-index in
    let all = c.requires.one_each in
    let same = c.loop-walk.auto.walk-items in
    let x : CdpWalk = get_or c.loop-walk.walk-items i c.walk-item.result in
    let at : IsDoneAt run epoch i x = c.loop-walk.invariant.left i c.walk-item.result (omega arith) (omega arith) in
    IsClosable-walked run epoch (epoch + 1) i x at.walked (omega (arith, all, same)) (IsComplete-done run epoch (epoch + 1) i x at.walked at.done)

pub loop-walk-preserved : goal.loop-walk-preserved
loop-walk-preserved c =
    let run = c.args.run.now in
    let epoch = c.args.epoch in
    let i = c.loop-walk.walk-index in
    let xs = c.loop-walk.walk-items in
    let d = c.walk-item.result in
    let y = c.close.new.walk in
    let did = c.in_ok-close.ensures in
    Turn-more (IsDoneAt run epoch) (HasFoundAll run) i xs d y c.loop-walk.invariant (omega arith)
    (λ at.
    let met = at.done.met in
    let closed = did.closed in
    let walked = subst (λ n. IsWalkedIn run epoch (epoch + 1) n y) at.walked.own (did.walked epoch (epoch + 1) (subst (λ n. IsWalkedIn run epoch (epoch + 1) n (get_or xs i d)) (sym at.walked.own) at.walked)) in
    HasFoundAll-closed run epoch (epoch + 1) i y walked (omega (arith, met, closed)))

pub returns : goal.returns
returns c = Each-turned (IsDoneAt c.args.run.now c.args.epoch) (HasFoundAll c.args.run.now) c.loop-walk.walk-index c.loop-walk.walk-items c.loop-walk.invariant (omega arith)
