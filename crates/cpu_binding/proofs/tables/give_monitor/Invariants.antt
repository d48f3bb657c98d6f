use Rattle.cpu_binding.specs.Groups.{after_monitor}
use Rattle.std.proofs.Common.{◌≡◌, length}
use Rattle.cpu_binding.proofs.Changes.{ChangedTo}
use Rattle.cpu_binding.proofs.tables.give_monitor.Given as goal

abbrev pub invariant-loop-cpu : goal.invariant-loop-cpu
invariant-loop-cpu l = record {
  whole : length l.groups ≡ 64;
  walk : ChangedTo (after_monitor l.group l.set) l.initial.groups l.groups l.cpu;
}
