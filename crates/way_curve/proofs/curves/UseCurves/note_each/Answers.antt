use Rattle.std.proofs.Common.{◌≡◌, List, [], ◌∷◌, length, sym, ap, subst, arith}
use Rattle.lackey_text.specs.Uses.{uses_left}
use Rattle.lackey_text.specs.declared.uses.LineUse.{LineUse}
use Rattle.way_curve.specs.Counting.{AddUses}
use Rattle.way_curve.proofs.Counts.{AddUses-append, AddUses-nil}
use Rattle.way_curve.proofs.curves.UseCurves.note_each.Goals as goal

pub loop-used-preserved : goal.loop-used-preserved
loop-used-preserved c =
    let before = c.loop-used.invariant in
    let first : uses_left c.loop-used.used-iterator ≡ c.in-Some.used ∷ uses_left c.next.new.self = c.in-Some.ensures.steps in
    record {
      next = tt;
      finite = tt;
      count = omega (arith, ap length first, before.count, c.note.ensures.uses);
      counted = λ now more. before.counted now (subst (λ (us : List LineUse). AddUses c.loop-used.self now us) (sym first)
          (AddUses-append c.loop-used.self c.note.new.self now (c.in-Some.used ∷ []) (uses_left c.next.new.self) c.note.ensures.counted more));
    }

pub returns-clause-counted : goal.returns-clause-counted
returns-clause-counted c =
    let none : uses_left c.loop-used.used-iterator ≡ [] = c.in-None.ensures.steps.0 in
    c.loop-used.invariant.counted c.loop-used.self (subst (λ (us : List LineUse). AddUses c.loop-used.self c.loop-used.self us) (sym none) (AddUses-nil c.loop-used.self))
