use Rattle.std.proofs.Common.{◌≡◌, length, map}
use Rattle.pair_windows.proofs.MarkedOps.{MarkedBelow}
use Rattle.pair_windows.proofs.hits.hits_on.Given as goal
use Rattle.run_law.specs.Entries.{entries_of}

-- the domains so far are marked
abbrev pub invariant-loop-domain : goal.invariant-loop-domain
invariant-loop-domain l = record { all : length l.hits.items ≡ length l.script.ops; each : MarkedBelow l.script l.side (map entries_of l.slices) l.domain l.hits.items }
