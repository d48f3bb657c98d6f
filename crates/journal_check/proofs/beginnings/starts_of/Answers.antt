use Rattle.std.proofs.Common.{ap, arith}
use Rattle.journal_check.proofs.OpMarks.{AreStarts-begun, few-rows, few-starts}
use Rattle.journal_check.proofs.laws.FewCommands.{length-commands}
use Rattle.machine.specs.Slices.{slice_count}
use Rattle.journal_check.proofs.beginnings.starts_of.Goals as goal

pub returns-clause-starts : goal.returns-clause-starts
returns-clause-starts c =
    AreStarts-begun c.args.script.now c.args.j.now c.threads-threads.ensures.lawful c.requires.all c.requires.once c.requires.made c.loop-i.starts c.loop-i.i
    (let over = c.loop-i-test.false in omega (arith, over, c.slice_count-i-end.ensures.count, c.requires.all, ap slice_count c.machine.ensures))
    c.loop-i.invariant.table c.loop-i.invariant.begun

pub returns-clause-few : goal.returns-clause-few
returns-clause-few c =
    let script = c.args.script.now in
    let j = c.args.j.now in
    let starts =
    AreStarts-begun script j c.threads-threads.ensures.lawful c.requires.all c.requires.once c.requires.made c.loop-i.starts c.loop-i.i
    (let over = c.loop-i-test.false in omega (arith, over, c.slice_count-i-end.ensures.count, c.requires.all, ap slice_count c.machine.ensures))
    c.loop-i.invariant.table c.loop-i.invariant.begun in
    let few = length-commands script j.tree c.requires.legal c.requires.once c.threads-threads.ensures.lawful in
    few-rows c.loop-i.starts 4000000 (λ t o n is. (let late = few-starts script j c.loop-i.starts c.requires.accesses c.requires.others starts t o n is in omega arith))
