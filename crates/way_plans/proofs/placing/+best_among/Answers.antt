use Rattle.std.proofs.Common.{arith}
use Rattle.way_plans.specs.Divisions.{end}
use Rattle.way_plans.specs.declared.span.Span.{Span}
use Rattle.way_plans.proofs.Places.{All-behind, IsBestAmong-front, front, shorter-behind, states-behind, steps-behind, stride-behind}
use Rattle.std.proofs.Common.{◌+◌, ◌≤◌}
use Rattle.way_plans.proofs.placing.+best_among.Goals as goal

pub overflow_mul-stride : goal.overflow_mul-stride
overflow_mul-stride t c = omega (arith, stride-behind c.args.runs.now c.args.stride 16384 (omega (arith, c.in-len1-up.len_at_least)) c.requires.few)

pub best_among-behind-requires : goal.best_among-behind-requires
best_among-behind-requires t c =
    let runs = c.args.runs.now in
    let some = c.in-len1-up.len_at_least in (
      omega (arith, shorter-behind runs some),
      (
        All-behind (λ (run : Span). end run ≤ 32) runs c.requires.runs,
        (
          steps-behind c.args.left ((front runs).count + 1) c.args.stride c.args.group.now.state c.requires.steps,
          (states-behind runs c.args.stride 16384 some c.requires.few, (c.requires.count, (c.requires.own, c.requires.next))),
        ),
      ),
    )

pub returns : goal.returns
returns t c = rw c.fewer.ensures (
    IsBestAmong-front c.args.group.now.least c.args.group.now.misses.now c.args.group.now.next.now c.args.group.now.state c.args.runs.now c.args.stride c.args.left c.best_in-here.result c.best_among-behind.result c.in-len1-up.len_at_least
    c.best_in-here.ensures.placed c.best_in-here.ensures.beats c.best_among-behind.ensures)
