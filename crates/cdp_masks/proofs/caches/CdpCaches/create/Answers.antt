use Rattle.std.proofs.Common.{ap, ◌∙◌}
use Rattle.machine.specs.declared.parameters.Parameters.{Parameters}
use Rattle.cdp_masks.proofs.caches.CdpCaches.create.Goals as goal
use Rattle.pair_play.proofs.laws.LevelsSoFar.{IsLevelSoFar-none}

pub returns : goal.returns
returns c =
    let level = c.in_ok-level.ensures in
    record {
      code_masks = c.requires.code_masks;
      level = IsLevelSoFar-none _ _ _ c.in_ok-level.level (level.parameters ∙ c.machine.ensures) (level.one_each ∙ ap (λ (p : Parameters). p.domains) c.machine.ensures) level.empty;
    }
