use Rattle.std.proofs.lemmas.Nat.{trailing_le}
use Rattle.cpu_lists.proofs.LowestNumbers.{has-trailing_zeros, has-below_trailing_zeros}
use Rattle.cpu_lists.proofs.runs.lowest.Goals as goal

pub returns-clause-limit : goal.returns-clause-limit
returns-clause-limit c = trailing_le 64 c.args.set

pub returns-clause-found : goal.returns-clause-found
returns-clause-found c found = has-trailing_zeros c.args.set c.ranges.set.fits found

pub returns-clause-passed : goal.returns-clause-passed
returns-clause-passed c k below = has-below_trailing_zeros c.args.set k c.ranges.set.fits below
