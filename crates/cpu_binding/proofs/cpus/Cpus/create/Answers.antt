use Rattle.std.proofs.Common.{◌≡◌, take, replicate, subst, sym}
use Rattle.cpu_binding.specs.declared.groups.CpuGroups.{CpuGroups}
use Rattle.cpu_binding.specs.Groups.{opening_cpu}
use Rattle.cpu_binding.proofs.Changes.{take-replicate}
use Rattle.cpu_binding.proofs.cpus.Cpus.create.Goals as goal

pub returns : goal.returns
returns c = subst (λ (g : CpuGroups). take c.args.cpus (replicate 64 g) ≡ replicate c.args.cpus opening_cpu) (sym c.joined.ensures) (take-replicate c.args.cpus 64 opening_cpu c.requires)
