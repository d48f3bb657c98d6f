use Rattle.std.proofs.Common.{◌∙◌}
use Rattle.mode_rules.proofs.laws.StartingWays.{filter-starting_ways}
use Rattle.mode_rules.proofs.placing.starting_mask.Goals as goal

pub returns : goal.returns
returns c = c.given_or_free.ensures ∙ filter-starting_ways c.args.others.now c.args.len
