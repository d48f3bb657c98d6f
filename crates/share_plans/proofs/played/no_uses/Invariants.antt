use Rattle.std.proofs.Common.{◌≡◌, [], All, length}
use Rattle.way_curve.specs.IsCurve.{IsCurve}
use Rattle.share_plans.specs.Played.{OwnValue}
use Rattle.share_plans.proofs.played.no_uses.Given as goal

abbrev pub invariant-loop : goal.invariant-loop
invariant-loop l = record {
  count : length l.own.items ≡ l.counter;
  sets : All (λ (o : OwnValue). o.curve.sets ≡ l.sets) l.own.items;
  uses : All (λ (o : OwnValue). o.curve.uses ≡ 0) l.own.items;
  hits : All (λ (o : OwnValue). o.hits ≡ 0) l.own.items;
  empty : All (λ (o : OwnValue). IsCurve o.curve []) l.own.items;
}
