use Rattle.std.proofs.Common.{◌≡◌, max, drop}
use Rattle.tree_law.specs.Freeing.{greatest}
use Rattle.tree_core.proofs.looks.greatest.Given as goal

abbrev pub invariant-loop-lines : goal.invariant-loop-lines
invariant-loop-lines l = max l.most (greatest (drop l.lines-index l.looks)) ≡ greatest l.looks
