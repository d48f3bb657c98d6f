use Rattle.std.proofs.Common.{◌≡◌, ℕ, ◌-◌, ◌*◌, arith, ap, ◌∙◌}
use Rattle.way_plans.specs.Placings.{IsPlacedIn, fewer, lowest_of, placed_at}
use Rattle.way_plans.proofs.Fewer.{IfSome-fewer}
use Rattle.way_plans.proofs.Places.{IsNoFewer-more, IsPlacedIn-at}
use Rattle.way_plans.proofs.placing.best_in.Goals as goal

pub loop-count-preserved : goal.loop-count-preserved
loop-count-preserved c =
    let least = c.args.group.now.least in
    let group = c.args.group.now.misses.now in
    let next = c.args.group.now.next.now in
    let state = c.args.group.now.state in
    let stride = c.args.stride in
    let run = c.args.run in
    let left = c.args.left in
    let count = c.loop-count.count in
    let best = c.loop-count.best in
    let here = placed_at group next (state - count * stride) (lowest_of run left count) in
    let is : c.fewer-best.result ≡ fewer best here = c.fewer-best.ensures ∙ ap (fewer best) c.placed_at.ensures in (
      rw is (IfSome-fewer (IsPlacedIn least group next state stride run left) best here c.loop-count.invariant.0 (IsPlacedIn-at least group next state stride run left count (omega arith) (omega arith))),
      λ k enough within below.
          rw is (IsNoFewer-more least group next state (λ (n : ℕ). placed_at group next (state - n * stride) (lowest_of run left n)) left count best c.loop-count.invariant.1 k enough within below),
    )
