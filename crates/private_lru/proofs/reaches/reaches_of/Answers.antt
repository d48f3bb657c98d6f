use Rattle.std.proofs.Common.{length, get_or, subst, ap, ◌∙◌, arith}
use Rattle.std.proofs.lemmas.List.{get_or-replicate, length-replicate}
use Rattle.private_lru.proofs.HighEpochs.{IsHigh-none}
use Rattle.private_lru.proofs.HeldReaches.{AreReaches-none}
use Rattle.private_lru.specs.Cuts.{AreReaches}
use Rattle.private_lru.proofs.reaches.reaches_of.Goals as goal

pub loop-at-init : goal.loop-at-init
loop-at-init c =
    let count = length c.args.stays.now in
    let made = c.in_ok-reaches.ensures.items_if_clones_equal (λ y same. same) in
    record {
      is_high = IsHigh-none c.args.entries.now;
      are_reaches = AreReaches-none c.args.entries.now c.args.stays.now c.in_ok-reaches.reaches.items (ap length made ∙ length-replicate count 0) (λ j within. ap (λ l. get_or l j 0) made ∙ get_or-replicate count j 0 0 within);
    }

pub returns : goal.returns
returns c =
    let stop = c.loop-at-test.false in
    let most = c.loop-at.auto.at-end in
    subst (λ n. AreReaches c.args.entries.now n c.args.stays.now c.loop-at.reaches.items) (omega (arith, stop, most)) c.loop-at.invariant.are_reaches
