use Rattle.std.proofs.Common.{◌≡◌, map, take}
use Rattle.run_windows.specs.Stays.{stay_of}
use Rattle.run_windows.proofs.sweep.stays_of.Given as goal

abbrev pub invariant-loop-group : goal.invariant-loop-group
invariant-loop-group l = l.stays.items ≡ map (stay_of l.domain l.last l.next) (take l.group-index l.groups)
