use Rattle.std.proofs.Common.{◌≡◌, find, drop, None}
use Rattle.pair_law.specs.State.{has_name}
use Rattle.pair_tree.proofs.lookup.default_place.Given as goal

abbrev pub invariant-loop-place : goal.invariant-loop-place
invariant-loop-place l = find (has_name None) (drop l.place l.groups) ≡ find (has_name None) l.groups
