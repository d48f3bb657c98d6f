use Rattle.std.proofs.Common.{List, length, get_or, subst, ap, ◌∙◌, arith}
use Rattle.std.proofs.lemmas.List.{get_or-replicate, length-replicate}
use Rattle.private_lru.specs.declared.counts.WindowCounts.{WindowCounts}
use Rattle.private_lru.proofs.HighEpochs.{IsHigh-none}
use Rattle.private_lru.proofs.TallySteps.{AreTallies-none, no_counts}
use Rattle.private_lru.specs.Tallies.{AreTallies}
use Rattle.private_lru.proofs.tallies.tallies_of.Goals as goal

pub loop-at-init : goal.loop-at-init
loop-at-init c =
    let count = length c.args.spans.now.stays.now in
    let made = c.in_ok-tallies.ensures.items_if_clones_equal (λ y same. same) in
    record {
      is_high = IsHigh-none c.args.entries.now;
      are_tallies = AreTallies-none c.args.entries.now c.args.spans.now.stays.now c.args.spans.now.ends.now c.in_ok-tallies.tallies.items (ap length made ∙ length-replicate count no_counts)
          (λ j d within. ap (λ (l : List WindowCounts). get_or l j d) made ∙ get_or-replicate count j no_counts d within);
    }

pub returns : goal.returns
returns c =
    let stop = c.loop-at-test.false in
    let most = c.loop-at.auto.at-end in
    subst (λ n. AreTallies c.args.entries.now n c.args.spans.now.stays.now c.args.spans.now.ends.now c.loop-at.tallies.items) (omega (arith, stop, most)) c.loop-at.invariant.are_tallies
