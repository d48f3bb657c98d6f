use Rattle.pair_law.proofs.laws.WindowExtents.{IsCdpWindow-same, IsCdpWindow-some}
use Rattle.pair_law.proofs.run_theorems.cdp_windows_are_one.Goals as goal

pub returns-clause-exist : goal.returns-clause-exist
returns-clause-exist c = IsCdpWindow-some

pub returns-clause-unique : goal.returns-clause-unique
returns-clause-unique c = IsCdpWindow-same
