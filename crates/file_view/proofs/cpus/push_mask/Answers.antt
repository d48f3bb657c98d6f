use Rattle.std.proofs.Common.{arith}
use Rattle.file_view.proofs.CpuTexts.{length-mask_text}
use Rattle.file_view.proofs.cpus.push_mask.Goals as goal

pub push-requires : goal.push-requires
push-requires c = omega (arith, c.requires.room, c.print_mask.ensures.spare, length-mask_text c.machine.result.now.cpus c.cpu_set.result (omega (arith, c.machine.result.now.in_range.cpu_limit)) c.cpu_set.type_inv)
