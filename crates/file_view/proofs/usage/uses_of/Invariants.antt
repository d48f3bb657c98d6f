use Rattle.std.proofs.Common.{◌≡◌, None, length, map}
use Rattle.std.specs.List.{range_with_len}
use Rattle.bit_usage.proofs.laws.SameWays.{letters_in}
use Rattle.tree_law.specs.Space.{used_in}
use Rattle.file_view.proofs.usage.uses_of.Given as goal

abbrev pub invariant-loop-domain : goal.invariant-loop-domain
invariant-loop-domain l = record {
  count : length l.all.items ≡ l.domain;
  same : letters_in l.tree.machine.ways l.all.items ≡ letters_in l.tree.machine.ways (map (used_in l.tree.machine l.tree.state None) (range_with_len 0 l.domain));
}
