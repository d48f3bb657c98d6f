use Rattle.std.proofs.Common.{refl}
use Rattle.pair_windows.proofs.DomainSteps.{HasWalked-kept}
use Rattle.pair_windows.specs.declared.domain_walks.DomainWalk.{DomainWalk}
use Rattle.pair_windows.proofs.domain_walks.keep.Goals as goal

pub returns-clause-walked : goal.returns-clause-walked
returns-clause-walked c = λ hits from place domain le walked.
    let w = c.args.walk.now in
    let new : DomainWalk = record { domain = w.domain; segment = record { held = c.keep_on.new.spans; l2 = w.segment.l2; l3 = w.segment.l3 }; windows = w.windows } in
    HasWalked-kept c.args.script.now hits from domain w new refl refl c.args.epoch place c.args.tree.now.state le c.requires.state walked c.keep_on.ensures refl refl
