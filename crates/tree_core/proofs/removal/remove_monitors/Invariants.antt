use Rattle.std.proofs.Common.{◌≡◌, ◌-◌, ◌++◌, drop, take}
use Rattle.tree_core.specs.Removals.{off_monitors}
use Rattle.tree_core.proofs.removal.remove_monitors.Given as goal

abbrev pub invariant-loop-k : goal.invariant-loop-k
invariant-loop-k l = record {
  groups : l.groups.groups ≡ take (l.count - l.k) l.initial.groups.groups ++ off_monitors l.control (drop (l.count - l.k) l.initial.groups.groups);
  shareable : l.groups.shareable ≡ l.initial.groups.shareable;
}
