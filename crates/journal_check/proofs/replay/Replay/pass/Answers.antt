use Rattle.std.proofs.Common.{refl, sym, ◌∙◌}
use Rattle.journal_check.proofs.StandingPlaces.{StandsFor-quiet, floor-kept}
use Rattle.journal_check.proofs.replay.Replay.pass.Goals as goal

pub returns : goal.returns
returns c =
    let r = c.args.self.now in
    let quiet = c.requires.quiet in
    let stands = c.requires.stands in
    StandsFor-quiet r.slots.shape c.args.before.now c.args.entry r r stands quiet.decides_none quiet.uses_none refl refl
    (stands.floor ∙ sym (floor-kept r.slots.shape c.args.before.now c.args.entry r r stands quiet.leaves_floor))
