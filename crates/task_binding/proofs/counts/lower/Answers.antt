use Rattle.std.proofs.Common.{List, subst, arith}
use Rattle.task_binding.specs.GroupCounts.{IsGapFor}
use Rattle.task_binding.specs.declared.counts.GroupCount.{GroupCount}
use Rattle.task_binding.proofs.GroupCounts.{count_in-gap}
use Rattle.task_binding.proofs.counts.lower.Goals as goal

pub unreachable-requires : goal.unreachable-requires
unreachable-requires c =
    let gap = subst (λ (xs : List GroupCount). IsGapFor xs c.args.group c.in-Err.field-0) c.deref.ensures.value c.in-Err.ensures.absent in
    let none = count_in-gap c.args.counts.now.items c.requires.table c.args.group c.in-Err.field-0 gap in
    omega (arith, none, c.requires.some)
