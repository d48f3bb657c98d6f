use Rattle.std.proofs.Common.{◌<◌, refl, arith}
use Rattle.std.proofs.lemmas.Bool.Decides.{nat_tests}
use Rattle.task_binding.specs.GroupCounts.{count_in}
use Rattle.task_binding.specs.declared.counts.GroupCount.{GroupCount}
use Rattle.task_binding.proofs.GroupCounts.{count_in-gap, count_in-place, positive-place}
use Rattle.task_binding.proofs.counts.has_tasks.Goals as goal

pub returns-in-Ok : goal.returns-in-Ok
returns-in-Ok c =
    let d : GroupCount = record { group = c.args.group; tasks = 0 } in
    let some = positive-place c.args.counts.now c.requires c.args.group c.in-Ok.field-0 c.in-Ok.ensures.found d in
    let is = count_in-place c.args.counts.now c.requires c.args.group c.in-Ok.field-0 c.in-Ok.ensures.found d in
    let more : 0 < count_in c.args.group c.args.counts.now = rw is some in
    grind (arith, nat_tests, more)

pub returns-in-Err : goal.returns-in-Err
returns-in-Err c = rw (count_in-gap c.args.counts.now c.requires c.args.group c.in-Err.field-0 c.in-Err.ensures.absent) refl
