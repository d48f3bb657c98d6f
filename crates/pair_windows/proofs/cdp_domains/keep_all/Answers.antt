use Rattle.std.proofs.Common.{◌+◌, arith}
use Rattle.std.proofs.lemmas.List.Elements.{All-set}
use Rattle.pair_windows.proofs.Turns.{Each-turned, Turn-more, Turn-none}
use Rattle.pair_windows.specs.CdpWalks.{IsSmall, IsWalkedIn, entries_of_domain}
use Rattle.pair_windows.proofs.cdp_domains.keep_all.Goals as goal

pub loop-walk-init : goal.loop-walk-init
loop-walk-init c = record {
  all_small = c.requires.small;
  turned = λ run floor state all. Turn-none (IsWalkedIn run c.args.epoch floor) (IsWalkedIn run (c.args.epoch + 1) floor) c.args.walks.now all;
}

pub loop-walk-preserved : goal.loop-walk-preserved
loop-walk-preserved c =
    let i = c.loop-walk.walk-index in
    let xs = c.loop-walk.walk-items in
    let d = c.walk-item.result in
    record {
      all_small = All-set IsSmall xs i c.keep.new.walk c.keep.ensures.small c.loop-walk.invariant.all_small;
      turned = λ run floor state all.
          Turn-more (IsWalkedIn run c.args.epoch floor) (IsWalkedIn run (c.args.epoch + 1) floor) i xs d c.keep.new.walk (c.loop-walk.invariant.turned run floor state all) (omega arith)
          (c.keep.ensures.walked run.script.now (entries_of_domain run i) floor i state);
    }

pub returns : goal.returns
returns c = λ run floor state all.
    Each-turned (IsWalkedIn run c.args.epoch floor) (IsWalkedIn run (c.args.epoch + 1) floor) c.loop-walk.walk-index c.loop-walk.walk-items (c.loop-walk.invariant.turned run floor state all) (omega arith)
