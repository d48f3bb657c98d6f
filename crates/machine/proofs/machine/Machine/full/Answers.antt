use Rattle.machine.proofs.Masks.{ways_of-full}
use Rattle.machine.proofs.machine.Machine.full.Goals as goal

pub returns : goal.returns
returns c = ways_of-full c.args.self.now.ways c.args.self.now.in_range.way_limit
