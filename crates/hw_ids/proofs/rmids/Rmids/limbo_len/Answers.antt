use Rattle.std.proofs.Common.{subst}
use Rattle.hw_ids.specs.MonitoringIds.{ArePart}
use Rattle.hw_ids.proofs.FreeRmids.{ArePart-seen}
use Rattle.hw_ids.proofs.rmids.Rmids.limbo_len.Goals as goal

pub returns-clause-parts : goal.returns-clause-parts
returns-clause-parts c = subst ArePart c.self.view_is (ArePart-seen c.self.inside.count c.self.inside.uses c.self.inside.threshold)
