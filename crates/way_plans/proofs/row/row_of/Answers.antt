use Rattle.std.proofs.Common.{◌≡◌, ◌+◌, ◌-◌, arith, refl, ◌∙◌}
use Rattle.std.proofs.lemmas.List.{length-set}
use Rattle.way_plans.proofs.BestRows.{at-none}
use Rattle.way_plans.proofs.BestSpans.{IsBestFrom-better, IsBestFrom-none, IsBestFrom-set}
use Rattle.way_plans.proofs.row.row_of.Goals as goal

pub loop-way-init : goal.loop-way-init
loop-way-init c = (omega arith, refl, λ from behind. IsBestFrom-none c.args.free.now c.args.least c.requires.least c.args.group.now c.args.next.now from _ (at-none from) behind)

pub loop-way-preserved : goal.loop-way-preserved
loop-way-preserved c =
    let way = c.loop-way.way - 1 in
    let next : c.loop-way.way ≡ way + 1 = omega (arith, c.loop-way-test.true) in (
      omega (arith, c.loop-way.invariant.0),
      length-set c.loop-way.row way c.better.result ∙ c.loop-way.invariant.1,
      IsBestFrom-set c.args.free.now c.args.least c.requires.least c.args.group.now c.args.next.now c.loop-way.row way c.better.result (omega (arith, c.loop-way.invariant.0, c.loop-way.invariant.1, c.requires.ways))
          (rw c.better.ensures (IsBestFrom-better c.args.free.now c.args.least c.requires.least c.args.group.now c.args.next.now way c.best_at-here.result _ c.best_at-here.ensures.chosen c.best_at-here.ensures.others
          (c.loop-way.invariant.2 (way + 1) (omega (arith, c.loop-way-test.true)))))
          (λ from behind. c.loop-way.invariant.2 from (omega (arith, behind))),
    )
