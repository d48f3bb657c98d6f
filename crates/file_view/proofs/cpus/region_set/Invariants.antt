use Rattle.file_view.specs.GroupFiles.{has_region}
use Rattle.machine.specs.Maps.{domain_of}
use Rattle.file_view.proofs.CpuSets.{Collected}
use Rattle.file_view.proofs.cpus.region_set.Given as goal

abbrev pub invariant-loop-cpu : goal.invariant-loop-cpu
invariant-loop-cpu l = Collected (λ cpu. has_region l.tree.state l.group.gid (domain_of l.tree.machine cpu)) l.set l.cpu
