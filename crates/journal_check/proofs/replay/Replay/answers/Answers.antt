use Rattle.std.proofs.Common.{◌%◌}
use Rattle.std.proofs.Math.Nat.{mod-lt}
use Rattle.journal_check.proofs.SameOutcomes.{outcome-held}
use Rattle.journal_check.proofs.replay.Replay.answers.Goals as goal

pub returns : goal.returns
returns c =
    let r = c.args.self.now in
    let same = outcome-held c.args.before.now r c.requires (c.args.outcome.line % r.slots.shape.sets) (mod-lt c.args.outcome.line c.requires.divided.some_set) c.args.mask c.args.outcome.line c.args.outcome.hit c.args.outcome.way in
    let told = c.is_outcome.ensures in
    (λ shown. same.0 (told.0 shown), λ is. told.1 (same.1 is))
