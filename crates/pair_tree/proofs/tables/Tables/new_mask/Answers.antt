use Rattle.std.proofs.Common.{rules}
use Rattle.pair_tree.proofs.NewGroups.{initial_mask-found}
use Rattle.pair_tree.specs.Tables.{state_of}
use Rattle.pair_tree.proofs.tables.Tables.new_mask.Goals as goal

pub returns : goal.returns
returns c =
    initial_mask-found c.args.m.now (state_of c.args.self.now) (record { side = c.args.side; domain = c.args.domain }) c.geometry.result c.used-used.result c.initial_mask.result c.geometry.ensures.geometry c.used-used.ensures (search rules) c.initial_mask.ensures.ways
