use Rattle.std.proofs.Common.{◌+◌, ◌≤◌, List, sym, subst, arith}
use Rattle.std.specs.Prelude.{All}
use Rattle.way_plans.specs.declared.span.Span.{Span}
use Rattle.way_plans.specs.Divisions.{end}
use Rattle.way_plans.specs.Runs.{runs_below}
use Rattle.way_plans.proofs.RunLists.{AreRuns-below, within-runs}
use Rattle.way_plans.proofs.runs.runs_of.Goals as goal

pub add_way-requires-clause-within : goal.add_way-requires-clause-within
add_way-requires-clause-within c =
    let free = c.args.free.now in
    let way = c.loop-way.way in
    subst (λ (runs : List Span). All (λ (run : Span). end run ≤ way) runs) (sym c.loop-way.invariant) (within-runs free (way + 1) way (runs_below free way) (omega arith) (AreRuns-below free way))

pub returns-clause-within : goal.returns-clause-within
returns-clause-within c =
    let free = c.args.free.now in
    let way = c.loop-way.way in
    subst (λ (runs : List Span). All (λ (run : Span). end run ≤ 32) runs) (sym c.loop-way.invariant) (within-runs free (way + 1) 32 (runs_below free way) (omega arith) (AreRuns-below free way))
