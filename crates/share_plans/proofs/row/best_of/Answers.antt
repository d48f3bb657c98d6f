use Rattle.std.proofs.Common.{◌≡◌, ℕ, ◌+◌, inl, inr, Option, subst, arith}
use Rattle.std.proofs.lemmas.Bool.{cases_lt}
use Rattle.share_plans.specs.declared.choice.Choice.{Choice}
use Rattle.share_plans.specs.Rows.{IsChosen, IsFit, IsNoBetter, better, choice_of}
use Rattle.share_plans.proofs.BestChoices.{HasWhole-fit, IfSome-better, IsChosen-here, IsNoBetter-first, IsNoBetter-second}
use Rattle.share_plans.proofs.row.best_of.Goals as goal

pub loop-count-preserved : goal.loop-count-preserved
loop-count-preserved c =
    let before = c.loop-count.invariant in
    let goal_ = c.args.goal in
    let d = c.args.demand.now in
    let next = c.args.later.now.row.now in
    let ways = c.args.ways in
    let count = c.loop-count.count in
    let one = c.choice_of.result in
    record {
      chosen = rw c.better-best.ensures (IfSome-better (IsChosen goal_ d next ways) c.loop-count.best one before.chosen
          (IsChosen-here goal_ d next ways count one (omega arith) (omega (arith, c.loop-count-test.true)) c.choice_of.ensures.choice));
      fit = rw c.better-best.ensures (IfSome-better (λ choice. IsFit goal_ (c.args.later.now.programs + 1) choice.score) c.loop-count.best one before.fit c.choice_of.ensures.fit);
      others = λ other enough below. elim (cases_lt other count) [
        | inl earlier ↦ rw c.better-best.ensures (IsNoBetter-first (choice_of goal_ d next ways other) c.loop-count.best one (HasWhole-fit goal_ (c.args.later.now.programs + 1) c.loop-count.best before.fit) (before.others other enough earlier))
        | inr there ↦
            let same : count ≡ other = omega (arith, below, there) in
            rw c.better-best.ensures (subst (λ (n : ℕ). IsNoBetter (choice_of goal_ d next ways n) (better c.loop-count.best one)) same
            (subst (λ (o : Option Choice). IsNoBetter o (better c.loop-count.best one)) c.choice_of.ensures.choice (IsNoBetter-second c.loop-count.best one)))
      ];
    }
