use Rattle.std.proofs.Common.{◌≡◌, map}
use Rattle.std.specs.List.{range_with_len}
use Rattle.way_plans.specs.Comparisons.{comparison_in}
use Rattle.way_plans.proofs.comparisons.comparisons_of.Given as goal

abbrev pub invariant-loop-domain : goal.invariant-loop-domain
invariant-loop-domain l = l.all.items ≡ map (comparison_in l.script l.journals l.groups) (range_with_len 0 l.domain)
