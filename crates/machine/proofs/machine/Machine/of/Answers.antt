use Rattle.machine.proofs.machine.Machine.of.Goals as goal

pub invariant_of-result : goal.invariant_of-result
invariant_of-result c = record { in_range = c.requires; tabled = c.cpu_table.ensures }
