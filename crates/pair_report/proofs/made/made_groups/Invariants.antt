use Rattle.pair_report.specs.LinesBefore.{HasMade}
use Rattle.pair_report.proofs.made.made_groups.Given as goal

abbrev pub invariant-loop-i : goal.invariant-loop-i
invariant-loop-i l = HasMade l.script l.replies l.i l.k l.made.items
