use Rattle.std.proofs.Common.{◌≡◌, ap, arith, length}
use Rattle.journal_check.proofs.AllMarked.{AllMarked-home, home-AllMarked}
use Rattle.machine.specs.Slices.{slice_count}
use Rattle.journal_check.proofs.homes.are_accesses_once.Goals as goal

pub returns : goal.returns
returns c =
    let script = c.args.script.now in
    let j = c.args.j.now in
    let i = c.loop-i.i in
    let lawful = c.threads-threads.ensures.lawful in
    let end : i ≡ length j.slices = omega (arith, c.loop-i.auto.i-end, c.loop-i-test.false, c.slice_count-i-end.ensures.count, ap slice_count c.machine.ensures, c.requires) in (
      λ shown. AllMarked-home script j lawful c.requires c.loop-i.marks c.loop-i.invariant.table i end c.loop-i.invariant.marks (c.are_all_marked.ensures.0 shown),
      λ all. c.are_all_marked.ensures.1 (home-AllMarked script j lawful c.requires c.loop-i.marks c.loop-i.invariant.table i end c.loop-i.invariant.marks all),
    )
