use Rattle.std.proofs.Common.{◌≡◌, ◌-◌, ◌*◌, ◌++◌, length}
use Rattle.tree_core.specs.RmidLists.{bytes_each}
use Rattle.tree_core.proofs.freeing.bytes_each.Given as goal

abbrev pub invariant-loop-n : goal.invariant-loop-n
invariant-loop-n l = record {
  bytes : l.bytes.items ++ bytes_each l.domains (l.count - l._n) l.rest ≡ bytes_each l.domains l.count l.looks;
  left : length l.rest ≡ (l.count - l._n) * l.domains;
}
