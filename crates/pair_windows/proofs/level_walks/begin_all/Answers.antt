use Rattle.std.proofs.Common.{arith}
use Rattle.std.proofs.lemmas.List.Elements.{All-set}
use Rattle.pair_windows.proofs.Turns.{Each-turned, Turn-more, Turn-none}
use Rattle.pair_windows.specs.DomainWalks.{HasFound, HasWalked, IsSmall}
use Rattle.pair_windows.proofs.level_walks.begin_all.Goals as goal

pub loop-walk-init : goal.loop-walk-init
loop-walk-init c = record {
  all_small = c.requires.small;
  turned = λ s hits from taken after all. Turn-none (HasFound s hits from) (HasWalked s hits from c.args.replay.now.tree.epoch c.args.replay.now.place) c.args.walks.now all;
}

pub loop-walk-preserved : goal.loop-walk-preserved
loop-walk-preserved c =
    let i = c.loop-walk.walk-index in
    let xs = c.loop-walk.walk-items in
    let d = c.walk-item.result in
    record {
      all_small = All-set IsSmall xs i c.begin.new.walk c.in_ok-begin.ensures.small c.loop-walk.invariant.all_small;
      turned = λ s hits from taken after all.
          Turn-more (HasFound s hits from) (HasWalked s hits from c.args.replay.now.tree.epoch c.args.replay.now.place) i xs d c.begin.new.walk (c.loop-walk.invariant.turned s hits from taken after all) (omega arith)
          (c.in_ok-begin.ensures.begun s hits from i taken after);
    }

pub returns-clause-begun : goal.returns-clause-begun
returns-clause-begun c = λ s hits from taken after all.
    Each-turned (HasFound s hits from) (HasWalked s hits from c.args.replay.now.tree.epoch c.args.replay.now.place) c.loop-walk.walk-index c.loop-walk.walk-items (c.loop-walk.invariant.turned s hits from taken after all) (omega arith)
