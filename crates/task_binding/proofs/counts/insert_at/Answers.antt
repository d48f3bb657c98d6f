use Rattle.std.proofs.Common.{◌<◌, vec_len, vec_capacity, arith}
use Rattle.task_binding.proofs.GroupCounts.{IsTable-insert, length-le-count_in_all}
use Rattle.task_binding.proofs.counts.insert_at.Goals as goal

pub unreachable-requires : goal.unreachable-requires
unreachable-requires c =
    let few = length-le-count_in_all c.args.counts.now.items c.requires.table.positive in
    let room : vec_len c.args.counts.now < vec_capacity c.args.counts.now = omega (arith, c.args.counts.now.ok.0, few, c.requires.room) in
    let gone = c.in-Err.ensures.succeeds room in absurd (cc)

pub returns-clause-table : goal.returns-clause-table
returns-clause-table c = rw c.in-Ok.ensures.items (IsTable-insert c.args.counts.now.items c.requires.table c.args.group c.args.place c.requires.gap 1 (omega arith))

pub returns-clause-capacity : goal.returns-clause-capacity
returns-clause-capacity c =
    let few = length-le-count_in_all c.args.counts.now.items c.requires.table.positive in
    let room : vec_len c.args.counts.now < vec_capacity c.args.counts.now = omega (arith, c.args.counts.now.ok.0, few, c.requires.room) in
    let same = c.in-Ok.ensures.in_place room in same.1.0
