use Rattle.std.proofs.Common.{◌≡◌, true, false, sym, ◌∙◌}
use Rattle.step_world.proofs.ListedSteps.{one-present, other-absent, step-absent}
use Rattle.step_world.proofs.listed.step_listed.Goals as goal
use Rattle.step_world.specs.Worlds.{machine_of}

pub step_present-requires-clause-present : goal.step_present-requires-clause-present
step_present-requires-clause-present c =
    let its = c.has.ensures.0 c.if-has.true in
    one-present c.args.script.now c.args.world.now.phase c.args.t c.args.present.now c.requires.phase c.requires.present its.0 its.1

pub returns-else-has-clause-steps : goal.returns-else-has-clause-steps
returns-else-has-clause-steps c =
    step-absent c.args.script.now (machine_of c.args.world.now) c.args.t
    (other-absent c.args.script.now c.args.world.now.phase c.args.t c.args.present.now c.requires.phase c.requires.present (λ its. absurd (let wrong : true ≡ false = sym (c.has.ensures.1 its) ∙ c.if-has.false in cc)))
