use Rattle.cpu_binding.specs.Groups.{has_control}
use Rattle.cpu_binding.proofs.Members.{Collected}
use Rattle.cpu_binding.proofs.tables.control_set.Given as goal

abbrev pub invariant-loop-cpu : goal.invariant-loop-cpu
invariant-loop-cpu l = Collected (has_control l.group) l.groups l.set l.cpu
