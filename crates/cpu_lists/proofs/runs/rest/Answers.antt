use Rattle.cpu_lists.proofs.LowParts.{has-cut_below, has-cut_from}
use Rattle.cpu_lists.proofs.runs.rest.Goals as goal

pub returns-clause-below : goal.returns-clause-below
returns-clause-below c k under = has-cut_below c.args.set c.args.from k c.requires under

pub returns-clause-above : goal.returns-clause-above
returns-clause-above c k over lt = has-cut_from c.args.set c.args.from k c.requires over lt
