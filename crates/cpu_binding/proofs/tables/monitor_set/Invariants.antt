use Rattle.cpu_binding.specs.Groups.{has_monitor}
use Rattle.cpu_binding.proofs.Members.{Collected}
use Rattle.cpu_binding.proofs.tables.monitor_set.Given as goal

abbrev pub invariant-loop-cpu : goal.invariant-loop-cpu
invariant-loop-cpu l = Collected (has_monitor l.group) l.groups l.set l.cpu
