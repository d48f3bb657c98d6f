use Rattle.pair_windows.proofs.laws.UsedWindows.{AreCdpWindowsOf-listed}
use Rattle.pair_windows.proofs.theorems.cdp_windows_are_listed.Goals as goal

pub returns : goal.returns
returns c = AreCdpWindowsOf-listed
