use Rattle.std.proofs.Common.{◌≡◌, ℕ, ◌+◌, set, get_or, ap, ◌∙◌, arith, inl, inr, length-set}
use Rattle.std.proofs.lemmas.Bool.{cases_lt}
use Rattle.std.proofs.lemmas.List.{get_or-set_other, get_or-set_same}
use Rattle.std.proofs.lemmas.List.FromFn.{fill_by_all}
use Rattle.way_curve.specs.ItemCurves.{item_hits_of}
use Rattle.way_plans.specs.Plans.{misses_with}
use Rattle.way_plans.proofs.rows.misses_of.Goals as goal

pub loop-ways-preserved : goal.loop-ways-preserved
loop-ways-preserved c =
    let counts = c.loop-ways.row in
    let ways = c.loop-ways.ways in
    let sets = c.args.curve.now.sets in
    let new = c.misses.result in
    record {
      all = length-set counts ways new ∙ c.loop-ways.invariant.all;
      each = λ k below items is. elim (cases_lt k ways) [
        | inl before ↦
            let other : get_or (set counts ways new) k 0 ≡ get_or counts k 0 = get_or-set_other counts ways k new 0 (λ same. absurd (omega (arith, before, same))) in
            ap (λ (n : ℕ). n + item_hits_of sets k items) other ∙ c.loop-ways.invariant.each k before items is
        | inr there ↦
            let here : k ≡ ways = omega (arith, below, there) in
            let own : get_or (set counts ways new) ways 0 ≡ new = get_or-set_same counts ways new 0 (omega (arith, c.loop-ways.invariant.all, c.loop-ways-test.true)) in
            ap (λ (n : ℕ). get_or (set counts ways new) n 0 + item_hits_of sets n items) here ∙ (ap (λ (n : ℕ). n + item_hits_of sets ways items) own ∙ c.misses.ensures.item_misses items is)
      ];
    }

pub returns : goal.returns
returns c = λ items is.
    let counts = c.loop-ways.row in
    let curve = c.args.curve.now in
    let stop = c.loop-ways-test.false in
    fill_by_all (misses_with curve.sets items) counts 33 0 c.loop-ways.invariant.all
    (λ k below. let misses = c.loop-ways.invariant.each k (omega (arith, below, stop)) items is in omega (arith, misses, is.uses))
