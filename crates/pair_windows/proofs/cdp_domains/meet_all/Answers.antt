use Rattle.std.proofs.Common.{◌+◌, get_or, sym, subst, ap, arith}
use Rattle.pair_windows.proofs.Turns.{Each-turned, Turn-more, Turn-none}
use Rattle.pair_windows.specs.CdpWalks.{IsWalkedIn}
use Rattle.pair_windows.specs.declared.cdp_walks.CdpWalk.{CdpWalk}
use Rattle.pair_windows.proofs.cdp_domains.meet_all.Goals as goal

pub loop-walk-init : goal.loop-walk-init
loop-walk-init c =
    let run = c.args.run.now in
    let epoch = c.args.replay.now.tree.epoch in
    Turn-none (IsWalkedIn run epoch epoch) (IsWalkedIn run epoch (epoch + 1)) c.args.walks.now c.requires.walked

pub meet-requires-clause-exists : goal.meet-requires-clause-exists
meet-requires-clause-exists c =
    let i = c.loop-walk.walk-index in
    let is = ap (λ (x : CdpWalk). x.domain) c.walk-item.is in
    let own = (c.loop-walk.invariant.left i c.walk-item.result (omega arith) (omega arith)).own in
    let all = c.requires.one_each in
    let same = c.loop-walk.auto.walk-items in
    omega (arith, is, own, all, same)

pub meet-requires-clause-walked : goal.meet-requires-clause-walked
meet-requires-clause-walked c =
    let run = c.args.run.now in
    let epoch = c.args.replay.now.tree.epoch in
    let i = c.loop-walk.walk-index in
    let x : CdpWalk = get_or c.loop-walk.walk-items i c.walk-item.result in
    let at : IsWalkedIn run epoch epoch i x = c.loop-walk.invariant.left i c.walk-item.result (omega arith) (omega arith) in
    subst (λ n. IsWalkedIn run epoch epoch n x) (sym at.own) at

pub loop-walk-preserved : goal.loop-walk-preserved
loop-walk-preserved c =
    let run = c.args.run.now in
    let epoch = c.args.replay.now.tree.epoch in
    let i = c.loop-walk.walk-index in
    let xs = c.loop-walk.walk-items in
    Turn-more (IsWalkedIn run epoch epoch) (IsWalkedIn run epoch (epoch + 1)) i xs c.walk-item.result c.meet.new.walk c.loop-walk.invariant (omega arith)
    (λ at. subst (λ n. IsWalkedIn run epoch (epoch + 1) n c.meet.new.walk) at.own c.in_ok-meet.ensures)

pub returns : goal.returns
returns c =
    let run = c.args.run.now in
    let epoch = c.args.replay.now.tree.epoch in
    Each-turned (IsWalkedIn run epoch epoch) (IsWalkedIn run epoch (epoch + 1)) c.loop-walk.walk-index c.loop-walk.walk-items c.loop-walk.invariant (omega arith)
