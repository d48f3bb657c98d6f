use Rattle.std.proofs.Common.{◌≡◌, ◌<◌, ℕ, false}
use Rattle.pair_law.specs.commands.Mode.{overlaps_some}
use Rattle.pair_tree.specs.Tables.{state_of}
use Rattle.pair_tree.proofs.tables.Tables.overlaps_on.Given as goal

abbrev pub invariant-loop-domain : goal.invariant-loop-domain
invariant-loop-domain l = (domain : ℕ) → domain < l.domain → overlaps_some l.m (state_of l.self) l.g (record { side = l.side; domain = domain }) ≡ false
