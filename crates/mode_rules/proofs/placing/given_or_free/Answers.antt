use Rattle.std.proofs.Common.{arith}
use Rattle.cbm.proofs.laws.LowestRuns.{shifted_one}
use Rattle.mode_rules.proofs.laws.StartingWays.{ways_of-union}
use Rattle.mode_rules.proofs.placing.given_or_free.Goals as goal

pub returns : goal.returns
returns c = rw (shifted_one c.args.len c.requires) (ways_of-union c.args.given c.args.taken c.args.len c.requires (omega arith))
