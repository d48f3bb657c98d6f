use Rattle.std.proofs.Common.{length, get_or, subst, ap, ◌∙◌, arith}
use Rattle.std.proofs.lemmas.List.{get_or-replicate, length-replicate}
use Rattle.private_lru.proofs.RunStarts.{IsStart-none}
use Rattle.private_lru.proofs.EachGroup.{AreCuts-none}
use Rattle.private_lru.specs.Cuts.{AreCuts}
use Rattle.private_lru.proofs.ends.ends_of.Goals as goal

pub loop-next-init : goal.loop-next-init
loop-next-init c =
    let count = length c.args.set.now.stays.now in
    let none = c.args.set.now.none in
    let made = c.in_ok-ends.ensures.items_if_clones_equal (λ y same. same) in
    record {
      is_start = IsStart-none c.args.uses.now;
      are_cuts = AreCuts-none c.args.set.now.sets c.args.set.now.opening c.args.uses.now none c.args.set.now.stays.now c.args.set.now.reaches.now c.in_ok-ends.ends.items (ap length made ∙ length-replicate count none) (λ j within. ap (λ l. get_or l j 0) made ∙ get_or-replicate count j none 0 within);
    }

pub returns : goal.returns
returns c =
    let stop = c.loop-next-test.false in
    let most = c.loop-next.auto.next-end in
    subst (λ n. AreCuts c.args.set.now.sets c.args.set.now.opening c.args.uses.now n c.args.set.now.none c.args.set.now.stays.now c.args.set.now.reaches.now c.loop-next.ends.items) (omega (arith, stop, most)) c.loop-next.invariant.are_cuts
