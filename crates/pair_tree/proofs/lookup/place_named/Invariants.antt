use Rattle.std.proofs.Common.{◌≡◌, find, drop, Some}
use Rattle.pair_law.specs.State.{has_name}
use Rattle.pair_tree.proofs.lookup.place_named.Given as goal

abbrev pub invariant-loop-place : goal.invariant-loop-place
invariant-loop-place l = find (has_name (Some l.name)) (drop l.place l.groups) ≡ find (has_name (Some l.name)) l.groups
