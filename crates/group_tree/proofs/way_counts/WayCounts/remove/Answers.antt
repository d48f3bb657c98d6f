use Rattle.std.proofs.Common.{◌≡◌, ℕ, ◌++◌, take, drop, length-set, sym, ap, ◌∙◌, arith}
use Rattle.group_tree.specs.Counts.{removed}
use Rattle.group_tree.proofs.Digits.{removed-done, removed-last, removed-next}
use Rattle.group_tree.proofs.way_counts.WayCounts.remove.Goals as goal

pub loop-k-preserved : goal.loop-k-preserved
loop-k-preserved c =
    let digits = c.loop-k.self.digits in
    record {
      size = length-set digits c.loop-k.k _ ∙ c.loop-k.invariant.size;
      same = c.loop-k.invariant.same ∙ removed-next c.loop-k.borrow digits c.loop-k.k _ (omega (arith, c.loop-k.invariant.size));
    }

pub returns-then-borrow-eq0 : goal.returns-then-borrow-eq0
returns-then-borrow-eq0 c =
    let digits = c.loop-k.self.digits in
    let none : c.loop-k.borrow ≡ 0 = omega arith in
    sym (c.loop-k.invariant.same ∙ (ap (λ (n : ℕ). take c.loop-k.k digits ++ removed n (drop c.loop-k.k digits)) none ∙ removed-done c.loop-k.k digits))

pub returns : goal.returns
returns c = sym (c.loop-k.invariant.same ∙ removed-last c.loop-k.borrow c.loop-k.k c.loop-k.self.digits (omega (arith, c.loop-k.invariant.size)))
