use Rattle.std.proofs.Common.{ℕ, ◌++◌, ap, ◌∙◌}
use Rattle.machine.proofs.laws.EveryWay.{ways_of-range}
use Rattle.file_view.specs.MachineFiles.{mask_line}
use Rattle.file_view.proofs.numbers.push_full.Goals as goal

pub returns-clause-bytes : goal.returns-clause-bytes
returns-clause-bytes c = c.push_mask.ensures.bytes ∙ ap (λ (mask : ℕ). c.args.out.now.bytes ++ mask_line mask) (ways_of-range c.full.result c.args.m.now.ways c.full.type_inv c.args.m.now.in_range.way_limit c.full.ensures)

pub returns-clause-spare : goal.returns-clause-spare
returns-clause-spare c = rw (← ways_of-range c.full.result c.args.m.now.ways c.full.type_inv c.args.m.now.in_range.way_limit c.full.ensures) c.push_mask.ensures.spare
