use Rattle.std.proofs.Common.{false, ap, ◌∙◌, arith}
use Rattle.std.proofs.lemmas.List.FromFn.{fill_by_all}
use Rattle.pseudo_lock.specs.Regions.{region_in}
use Rattle.way_plans.specs.Plans.{is_free}
use Rattle.way_plans.proofs.free.free_ways.Goals as goal

pub returns : goal.returns
returns c =
    let stop = c.loop-way-test.false in
    let m = c.args.tree.now.machine in
    fill_by_all (is_free m (region_in c.args.tree.now.state.regions c.args.domain)) c.loop-way.free 32 false c.loop-way.invariant.all
    (λ k below. c.loop-way.invariant.each k (omega (arith, below, stop)) ∙ ap (λ r. is_free m r k) c.region-region.ensures.region)
