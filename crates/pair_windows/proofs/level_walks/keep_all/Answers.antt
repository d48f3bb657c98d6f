use Rattle.std.proofs.Common.{◌+◌, arith}
use Rattle.std.proofs.lemmas.List.Elements.{All-set}
use Rattle.pair_windows.proofs.Turns.{Each-turned, Turn-more, Turn-none}
use Rattle.pair_windows.specs.DomainWalks.{HasWalked, IsSmall}
use Rattle.pair_windows.proofs.level_walks.keep_all.Goals as goal

pub loop-walk-init : goal.loop-walk-init
loop-walk-init c = record {
  all_small = c.requires.small;
  turned = λ hits from place le all. Turn-none (HasWalked c.args.script.now hits from c.args.epoch place) (HasWalked c.args.script.now hits from (c.args.epoch + 1) place) c.args.walks.now all;
}

pub loop-walk-preserved : goal.loop-walk-preserved
loop-walk-preserved c =
    let i = c.loop-walk.walk-index in
    let xs = c.loop-walk.walk-items in
    let d = c.walk-item.result in
    record {
      all_small = All-set IsSmall xs i c.keep.new.walk c.keep.ensures.small c.loop-walk.invariant.all_small;
      turned = λ hits from place le all.
          Turn-more (HasWalked c.args.script.now hits from c.args.epoch place) (HasWalked c.args.script.now hits from (c.args.epoch + 1) place) i xs d c.keep.new.walk
          (c.loop-walk.invariant.turned hits from place le all) (omega arith) (c.keep.ensures.walked hits from place i le);
    }

pub returns-clause-walked : goal.returns-clause-walked
returns-clause-walked c = λ hits from place le all.
    Each-turned (HasWalked c.args.script.now hits from c.args.epoch place) (HasWalked c.args.script.now hits from (c.args.epoch + 1) place)
    c.loop-walk.walk-index c.loop-walk.walk-items (c.loop-walk.invariant.turned hits from place le all) (omega arith)
