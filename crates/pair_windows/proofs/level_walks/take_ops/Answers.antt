use Rattle.std.proofs.Common.{◌≡◌, ◌+◌, false, sym, subst, ap, ◌∙◌, arith}
use Rattle.pair_text.specs.Values.{op_at}
use Rattle.pair_windows.proofs.SegmentSteps.{IsQuiet-more, IsQuiet-none, IsSegment-quiet, is_end-within, is_flush-more}
use Rattle.pair_windows.proofs.laws.RisingEpochs.{epoch_at-rises}
use Rattle.pair_windows.specs.DomainWalks.{Each, HasWalked}
use Rattle.pair_windows.specs.Segments.{is_end}
use Rattle.pair_windows.proofs.level_walks.take_ops.Goals as goal

pub loop-walks-init : goal.loop-walks-init
loop-walks-init c = record {
  has_taken = c.requires.taken;
  no_flush = IsQuiet-none c.args.script.now c.args.replay.now.place c.requires.within;
  all_small = c.requires.small;
  walked = λ from after all. all;
}

pub loop-walks-preserved : goal.loop-walks-preserved
loop-walks-preserved c =
    let script = c.args.script.now in
    let before = c.loop-walks.invariant in
    let to = c.loop-walks.replay in
    let more : is_end (op_at script to.place) ≡ false = ap (λ n. is_end (op_at script n)) (sym c.place.ensures) ∙ (sym c.is_end.ensures ∙ c.loop-walks-test.true) in
    let lt = is_end-within script to.place more in
    let next = c.take_op.ensures.place in
    let first = before.no_flush.later in
    record {
      has_taken = c.take_op.ensures.taken;
      no_flush = IsQuiet-more script c.args.replay.now.place to.place c.take_op.new.replay.place next lt (is_flush-more script to.place more) before.no_flush;
      all_small = c.take_op.ensures.small;
      walked = λ from after all.
          let rise = epoch_at-rises script (from + 1) to.place (omega (arith, first, after)) in
          let at = before.has_taken.epoch in
          subst (λ n. Each (HasWalked script c.args.hits.now from c.take_op.new.replay.tree.epoch n) c.take_op.new.walks) (sym next)
          (c.take_op.ensures.walked c.args.hits.now from (to.place + 1) (omega (arith, rise, at))
          (c.in_ok-push_all.ensures.walked from to.tree.epoch (omega (arith, first, after)) (before.walked from after all)));
    }

pub returns-clause-segment : goal.returns-clause-segment
returns-clause-segment c =
    let quiet = c.loop-walks.invariant.no_flush in
    let end = ap (λ n. is_end (op_at c.args.script.now n)) (sym c.place.ensures) ∙ (sym c.is_end.ensures ∙ c.loop-walks-test.false) in
    IsSegment-quiet c.args.script.now c.args.replay.now.place c.loop-walks.replay.place quiet end
