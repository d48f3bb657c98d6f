use Rattle.std.proofs.Common.{arith}
use Rattle.file_view.proofs.CpuTexts.{length-list_text}
use Rattle.file_view.proofs.cpus.push_list.Goals as goal

pub push-requires : goal.push-requires
push-requires c = omega (arith, c.requires.room, c.print_list.ensures.spare, length-list_text c.cpu_set.result)
