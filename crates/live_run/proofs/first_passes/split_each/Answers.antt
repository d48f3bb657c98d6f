use Rattle.std.proofs.Common.{◌+◌, subst, sym}
use Rattle.live_run.proofs.FirstShares.{AreSplit-next}
use Rattle.live_run.proofs.NumberedParts.{AreApart-numbered, AreNumbered-drop}
use Rattle.live_run.proofs.first_passes.split_each.Goals as goal
use Rattle.live_run.specs.Openings.{AreNumbered, AreSplit}

pub split-requires : goal.split-requires
split-requires g c = record {
  apart = AreApart-numbered c.loop.share.parts (subst AreNumbered (sym c.loop.invariant.rest) (AreNumbered-drop c.loop.counter c.args.share.now.parts c.requires.parts));
}

pub loop-preserved : goal.loop-preserved
loop-preserved g c =
    subst (AreSplit (c.loop.counter + 1) c.args.share.now c.split.new.self) (sym c.in_ok-push.ensures.items)
    (AreSplit-next c.loop.counter c.args.share.now c.loop.share c.split.new.self c.in_ok-split.field-0 c.loop.shares.items c.loop.invariant c.split.ensures.table.0 c.in_ok-split.ensures.table.1 c.in_ok-split.ensures.first c.in_ok-split.ensures.rest)
