use Rattle.std.proofs.Common.{◌≡◌, List, length, sym, ap, subst, arith}
use Rattle.journal_check.proofs.AskLists.{AreAsks-zero}
use Rattle.journal_check.specs.Asks.{AreAsks}
use Rattle.journal_check.specs.declared.asks.Ask.{Ask}
use Rattle.machine.specs.Slices.{slice_count}
use Rattle.journal_check.proofs.asks.all_asks.Goals as goal

pub loop-i-init : goal.loop-i-init
loop-i-init c = subst (λ (xs : List Ask). AreAsks c.args.script.now c.args.j.now 0 0 xs) (sym c.new-asks.ensures.items) (AreAsks-zero c.args.script.now c.args.j.now)

pub returns : goal.returns
returns c =
    let all : c.loop-i.i ≡ length c.args.j.now.slices = omega (arith, c.loop-i-test.false, c.loop-i.auto.i-end, c.slice_count-i-end.ensures.count, c.requires, ap slice_count c.machine.ensures) in
    subst (λ n. AreAsks c.args.script.now c.args.j.now n 0 c.loop-i.asks.items) all c.loop-i.invariant
