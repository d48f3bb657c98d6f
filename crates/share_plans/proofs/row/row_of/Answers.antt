use Rattle.std.proofs.Common.{ℕ, ◌<◌, None, refl, sym, ◌∙◌, subst, arith, inl, inr, length-set}
use Rattle.std.proofs.lemmas.Grind.{get_or-set_at}
use Rattle.std.proofs.lemmas.List.{get_or-set_other}
use Rattle.std.proofs.lemmas.Bool.Decides.{eqb_tells}
use Rattle.share_plans.specs.Rows.{IsBestFor}
use Rattle.share_plans.proofs.BestRows.{at-none}
use Rattle.share_plans.proofs.row.row_of.Goals as goal

pub loop-ways-init : goal.loop-ways-init
loop-ways-init c = record {
  all = refl;
  best = λ fewer below. absurd (omega (arith, below));
  fit = λ fewer. rw (at-none fewer) tt;
}

pub loop-ways-preserved : goal.loop-ways-preserved
loop-ways-preserved c =
    let row = c.loop-ways.row in
    let ways = c.loop-ways.ways in
    let new = c.best_of.result in
    let before = c.loop-ways.invariant in
    let within : ways < 33 = omega (arith, c.loop-ways-test.true) in
    record {
      all = length-set row ways new ∙ before.all;
      best = λ fewer below. elim (eqb_tells fewer ways) [
        | inl same ↦ rw (get_or-set_at row ways fewer new None same.1 (omega (arith, within, before.all)))
            (subst (λ (n : ℕ). IsBestFor c.args.goal c.args.demand.now c.args.next.now n new) (sym same.1) c.best_of.ensures.best)
        | inr other ↦ rw (get_or-set_other row ways fewer new None other.1) (before.best fewer (omega (arith, below, other.1)))
      ];
      fit = λ fewer. elim (eqb_tells fewer ways) [
        | inl same ↦ rw (get_or-set_at row ways fewer new None same.1 (omega (arith, within, before.all))) c.best_of.ensures.fit
        | inr other ↦ rw (get_or-set_other row ways fewer new None other.1) (before.fit fewer)
      ];
    }
