use Rattle.std.proofs.Common.{◌≢◌, sym, subst, arith}
use Rattle.std.proofs.lemmas.List.{get_or-set_other, length-set}
use Rattle.pair_text.specs.Values.{epoch_at}
use Rattle.pair_windows.proofs.Turns.{Each-turned, Turn-more}
use Rattle.pair_windows.specs.DomainWalks.{HasFound, HasWalked, IsCountable}
use Rattle.pair_windows.proofs.joint_counted.close_all.Goals as goal

pub loop-walk-preserved : goal.loop-walk-preserved
loop-walk-preserved c =
    let i = c.loop-walk.walk-index in
    let xs = c.loop-walk.walk-items in
    let d = c.walk-item.result in
    let few = c.requires.few in
    record {
      left_countable = λ k e more within.
          let other : k ≢ i = λ same. omega (arith, more, same) in
          subst IsCountable (sym (get_or-set_other xs i k c.close.new.walk e other)) (c.loop-walk.invariant.left_countable k e (omega (arith, more)) (omega (arith, within, length-set xs i c.close.new.walk)));
      turned = λ hits from last can epoch all.
          Turn-more (HasWalked c.args.script.now hits from (epoch_at c.args.script.now last) last) (HasFound c.args.script.now hits last) i xs d c.close.new.walk (c.loop-walk.invariant.turned hits from last can epoch all) (omega arith)
          (c.in_ok-close.ensures hits from last i can (omega (arith, few)) epoch);
    }

pub returns : goal.returns
returns c = λ hits from last can epoch all.
    Each-turned (HasWalked c.args.script.now hits from (epoch_at c.args.script.now last) last) (HasFound c.args.script.now hits last) c.loop-walk.walk-index c.loop-walk.walk-items
    (c.loop-walk.invariant.turned hits from last can epoch all) (omega arith)
