use Rattle.std.proofs.Common.{◌≡◌, ℕ, ◌++◌, take, drop, length-set, sym, ap, ◌∙◌, arith}
use Rattle.group_tree.specs.Counts.{added}
use Rattle.group_tree.proofs.Digits.{added-done, added-last, added-next}
use Rattle.group_tree.proofs.way_counts.WayCounts.add.Goals as goal

pub loop-k-preserved : goal.loop-k-preserved
loop-k-preserved c =
    let digits = c.loop-k.self.digits in
    record {
      size = length-set digits c.loop-k.k _ ∙ c.loop-k.invariant.size;
      same = c.loop-k.invariant.same ∙ added-next c.loop-k.carry digits c.loop-k.k _ (omega (arith, c.loop-k.invariant.size));
    }

pub returns-then-carry-eq0 : goal.returns-then-carry-eq0
returns-then-carry-eq0 c =
    let digits = c.loop-k.self.digits in
    let none : c.loop-k.carry ≡ 0 = omega arith in
    sym (c.loop-k.invariant.same ∙ (ap (λ (n : ℕ). take c.loop-k.k digits ++ added n (drop c.loop-k.k digits)) none ∙ added-done c.loop-k.k digits))

pub returns : goal.returns
returns c = sym (c.loop-k.invariant.same ∙ added-last c.loop-k.carry c.loop-k.k c.loop-k.self.digits (omega (arith, c.loop-k.invariant.size)))
