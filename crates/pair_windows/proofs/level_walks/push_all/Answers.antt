use Rattle.std.proofs.Common.{◌+◌, arith}
use Rattle.std.proofs.lemmas.List.Elements.{All-set}
use Rattle.pair_windows.proofs.Turns.{Each-turned, Turn-more, Turn-none}
use Rattle.pair_windows.specs.DomainWalks.{HasWalked, IsSmall}
use Rattle.pair_windows.proofs.level_walks.push_all.Goals as goal

pub loop-walk-init : goal.loop-walk-init
loop-walk-init c = record {
  all_small = c.requires.small;
  turned = λ from epoch lt all.
      Turn-none (HasWalked c.args.script.now c.args.hits.now from epoch c.args.replay.now.place) (HasWalked c.args.script.now c.args.hits.now from epoch (c.args.replay.now.place + 1)) c.args.walks.now all;
}

pub loop-walk-preserved : goal.loop-walk-preserved
loop-walk-preserved c =
    let i = c.loop-walk.walk-index in
    let xs = c.loop-walk.walk-items in
    let d = c.walk-item.result in
    record {
      all_small = All-set IsSmall xs i c.push_next.new.walk c.in_ok-push_next.ensures.small c.loop-walk.invariant.all_small;
      turned = λ from epoch lt all.
          Turn-more (HasWalked c.args.script.now c.args.hits.now from epoch c.args.replay.now.place) (HasWalked c.args.script.now c.args.hits.now from epoch (c.args.replay.now.place + 1)) i xs d c.push_next.new.walk
          (c.loop-walk.invariant.turned from epoch lt all) (omega arith) (c.in_ok-push_next.ensures.walked from epoch i lt);
    }

pub returns-clause-walked : goal.returns-clause-walked
returns-clause-walked c = λ from epoch lt all.
    Each-turned (HasWalked c.args.script.now c.args.hits.now from epoch c.args.replay.now.place) (HasWalked c.args.script.now c.args.hits.now from epoch (c.args.replay.now.place + 1))
    c.loop-walk.walk-index c.loop-walk.walk-items (c.loop-walk.invariant.turned from epoch lt all) (omega arith)
