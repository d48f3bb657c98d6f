use Rattle.pair_law.proofs.laws.CdpWindows.{IsIsolated-cdp_window}
use Rattle.pair_law.proofs.run_theorems.cdp_windows_are_isolated.Goals as goal

pub returns : goal.returns
returns c = IsIsolated-cdp_window
