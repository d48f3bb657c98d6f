use Rattle.std.proofs.Common.{ap, ◌∙◌}
use Rattle.l2_level.proofs.Opened.{IsLevelsSoFar-none}
use Rattle.l2_level.proofs.caches.LevelCaches.create.Goals as goal
use Rattle.machine.specs.Maps.{parameters_of}
use Rattle.machine.specs.declared.parameters.Parameters.{Parameters}

pub returns : goal.returns
returns c =
    let l2 = c.in_ok-l2.ensures in
    let l3 = c.in_ok-l3.ensures in
    IsLevelsSoFar-none c.args.script.now (parameters_of c.args.l2.now) c.in_ok-l2.l2 c.in_ok-l3.l3 c.requires.l2 l2.parameters l2.one_each l2.empty
    (l3.parameters ∙ c.machine.ensures) (l3.one_each ∙ ap (λ (p : Parameters). p.domains) c.machine.ensures) l3.empty
