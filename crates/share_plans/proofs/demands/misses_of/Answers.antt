use Rattle.std.proofs.Common.{◌≡◌, ℕ, ◌-◌, ◌≤◌, set, get_or, ap, ap₂, refl, sym, ◌∙◌, arith, inl, inr, length-set}
use Rattle.std.proofs.lemmas.Bool.{cases_lt}
use Rattle.std.proofs.lemmas.List.{get_or-set_other, get_or-set_same}
use Rattle.std.proofs.lemmas.List.Elements.{All-replicate, All-set}
use Rattle.std.proofs.lemmas.List.FromFn.{fill_by_all}
use Rattle.share_plans.specs.Sharing.{misses_in}
use Rattle.share_plans.proofs.demands.misses_of.Goals as goal

pub loop-ways-init : goal.loop-ways-init
loop-ways-init c = record {
  all = refl;
  few = All-replicate (λ n. n ≤ c.args.curve.now.uses) 33 0 (omega arith);
  each = λ k below lines is. absurd (omega (arith, below));
}

pub loop-ways-preserved : goal.loop-ways-preserved
loop-ways-preserved c =
    let counts = c.loop-ways.row in
    let ways = c.loop-ways.ways in
    let sets = c.args.curve.now.sets in
    let new = c.uses.result - c.hits.result in
    record {
      all = length-set counts ways new ∙ c.loop-ways.invariant.all;
      few = All-set (λ n. n ≤ c.args.curve.now.uses) counts ways new (omega (arith, c.uses.ensures)) c.loop-ways.invariant.few;
      each = λ k below lines is. elim (cases_lt k ways) [
        | inl before ↦
            get_or-set_other counts ways k new 0 (λ same. absurd (omega (arith, before, same))) ∙ c.loop-ways.invariant.each k before lines is
        | inr there ↦
            let here : k ≡ ways = omega (arith, below, there) in
            let own : get_or (set counts ways new) ways 0 ≡ new = get_or-set_same counts ways new 0 (omega (arith, c.loop-ways.invariant.all, c.loop-ways-test.true)) in
            ap (λ (n : ℕ). get_or (set counts ways new) n 0) here ∙ (own ∙ (ap₂ (λ (a b : ℕ). a - b) (c.uses.ensures ∙ is.uses) (c.hits.ensures.hits lines is) ∙ ap (λ (n : ℕ). misses_in sets lines n) (sym here)))
      ];
    }

pub returns-clause-misses : goal.returns-clause-misses
returns-clause-misses c = λ lines is.
    let counts = c.loop-ways.row in
    let curve = c.args.curve.now in
    fill_by_all (misses_in curve.sets lines) counts 33 0 c.loop-ways.invariant.all
    (λ k below. c.loop-ways.invariant.each k (omega (arith, below, c.loop-ways-test.false)) lines is)
