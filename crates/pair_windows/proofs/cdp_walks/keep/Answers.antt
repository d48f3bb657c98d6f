use Rattle.pair_windows.proofs.CdpSteps.{IsWalked-idle, IsWalked-kept}
use Rattle.pair_windows.proofs.cdp_walks.keep.Goals as goal

pub returns-then-walk-clause-walked : goal.returns-then-walk-clause-walked
returns-then-walk-clause-walked c = λ script entries floor domain state walked. IsWalked-idle script domain entries c.args.epoch floor c.args.walk.now walked c.if-walk.true

pub returns-clause-walked : goal.returns-clause-walked
returns-clause-walked c = λ script entries floor domain state walked.
    IsWalked-kept script domain entries c.args.epoch floor c.args.walk.now walked c.args.tree.now.state c.keep_on.new.spans state c.if-walk.false c.keep_on.ensures
