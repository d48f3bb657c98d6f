use Rattle.std.proofs.Common.{◌≡◌, ◌<◌, ◌≤◌, length, Some, refl, sym, ap, ◌∙◌, arith}
use Rattle.cbm.specs.Masks.{lowest_run, ways_of}
use Rattle.cbm.proofs.laws.Ways.{ways_of-zero}
use Rattle.mode_rules.specs.StartingWays.{granted_ways, initial_ways, space_in}
use Rattle.mode_rules.proofs.Space.{length-ways_of, space_in-none, space_in-few, space_in-some}
use Rattle.mode_rules.proofs.laws.StartingMasks.{checked-all_ways, checked-run, may_start_with-all_ways, may_start_with-run}
use Rattle.mode_rules.proofs.placing.initial_mask.Goals as goal
use Rattle.mode_rules.proofs.placing.initial_mask.Goals.{then-run-eq0-via-then-run-eq0, then-run-eq0-via-else-run-eq0+then-count-from}

pub returns-then-run-eq0-clause-ways : goal.returns-then-run-eq0-clause-ways
unfolding initial_ways
returns-then-run-eq0-clause-ways c =
    let g = c.args.g.now in
    let ways = c.starting_mask-ways.result in
    elim c.then-run-eq0.branch [
      | then-run-eq0-via-then-run-eq0 w ↦ space_in-none g (ways_of ways) (ways_of-zero ways (c.lowest_run-run.ensures.empty.0 w.if-run-eq0.true)) ∙ ap (space_in g) c.starting_mask-ways.ensures
      | then-run-eq0-via-else-run-eq0+then-count-from w ↦ space_in-few g (ways_of ways) (omega (arith, w.count.ensures, w.from.ensures, w.if-count-from.true, ap length c.lowest_run-run.ensures.run)) ∙ ap (space_in g) c.starting_mask-ways.ensures
    ]

pub returns-then-g-clause-ways : goal.returns-then-g-clause-ways
unfolding initial_ways
returns-then-g-clause-ways c =
    let g = c.args.g.now in
    let ways = c.starting_mask-ways.result in
    let some : 0 < length (ways_of ways) = length-ways_of ways (omega arith) (λ none. c.if-run-eq0.false (c.lowest_run-run.ensures.empty.1 none)) in
    let enough : g.min ≤ length (lowest_run (ways_of ways)) = omega (arith, ap length c.lowest_run-run.ensures.run) in
    let all : granted_ways g (ways_of ways) ≡ ways_of ways = rw c.if-g.true refl in
    sym (ap (space_in g) (sym c.starting_mask-ways.ensures) ∙ space_in-some g (ways_of ways) some enough ∙ ap Some all)

pub returns-then-g-clause-valid : goal.returns-then-g-clause-valid
returns-then-g-clause-valid c =
    let ways = c.starting_mask-ways.result in
    let some : 0 < length (ways_of ways) = length-ways_of ways (omega arith) (λ none. c.if-run-eq0.false (c.lowest_run-run.ensures.empty.1 none)) in
    checked-all_ways c.args.g.now c.args.others.now ways c.if-g.true c.starting_mask-ways.ensures some (omega (arith, ap length c.lowest_run-run.ensures.run))

pub returns-then-g-clause-within : goal.returns-then-g-clause-within
returns-then-g-clause-within c =
    λ way h. may_start_with-all_ways c.args.others.now c.args.g.now.len c.starting_mask-ways.result way (omega arith) c.starting_mask-ways.ensures h

pub returns-else-g-clause-ways : goal.returns-else-g-clause-ways
unfolding initial_ways
returns-else-g-clause-ways c =
    let g = c.args.g.now in
    let ways = c.starting_mask-ways.result in
    let some : 0 < length (ways_of ways) = length-ways_of ways (omega arith) (λ none. c.if-run-eq0.false (c.lowest_run-run.ensures.empty.1 none)) in
    let enough : g.min ≤ length (lowest_run (ways_of ways)) = omega (arith, ap length c.lowest_run-run.ensures.run) in
    let least : granted_ways g (ways_of ways) ≡ lowest_run (ways_of ways) = rw c.if-g.false refl in
    sym (ap (space_in g) (sym c.starting_mask-ways.ensures) ∙ space_in-some g (ways_of ways) some enough ∙ ap Some (least ∙ sym c.lowest_run-run.ensures.run))

pub returns-else-g-clause-valid : goal.returns-else-g-clause-valid
returns-else-g-clause-valid c =
    let ways = c.starting_mask-ways.result in
    let run = c.lowest_run-run.result in
    let some : 0 < length (ways_of run) = length-ways_of run (omega arith) c.if-run-eq0.false in
    checked-run c.args.g.now c.args.others.now ways run c.starting_mask-ways.ensures c.lowest_run-run.ensures.run some (omega arith)

pub returns-else-g-clause-within : goal.returns-else-g-clause-within
returns-else-g-clause-within c =
    λ way h. may_start_with-run c.args.others.now c.args.g.now.len c.starting_mask-ways.result c.lowest_run-run.result way (omega arith) c.starting_mask-ways.ensures c.lowest_run-run.ensures.run h
