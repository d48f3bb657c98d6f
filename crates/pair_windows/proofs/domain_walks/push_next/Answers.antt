use Rattle.std.proofs.Common.{refl}
use Rattle.pair_windows.proofs.DomainSteps.{HasWalked-pushed}
use Rattle.pair_windows.specs.declared.domain_walks.DomainWalk.{DomainWalk}
use Rattle.pair_windows.proofs.domain_walks.push_next.Goals as goal

pub returns-clause-walked : goal.returns-clause-walked
returns-clause-walked c = λ from epoch domain lt walked.
    let w = c.args.walk.now in
    let new : DomainWalk = record { domain = w.domain; segment = c.push_op.new.segment; windows = w.windows } in
    let did = c.in_ok-push_op.ensures in
    HasWalked-pushed c.args.script.now c.args.hits.now from domain w new refl refl epoch c.args.replay.now.place lt walked did.held did.l2 did.l3
