use Rattle.std.proofs.Common.{◌≡◌, Bool, true, false, List, [], ◌∷◌, length, sym, ap, subst, arith}
use Rattle.lackey_text.specs.Uses.{uses_left}
use Rattle.lackey_text.specs.declared.uses.LineUse.{LineUse}
use Rattle.way_curve.specs.Filtering.{AddFiltered, FilteredValue, behind}
use Rattle.way_curve.specs.LevelSteps.{SeesUse}
use Rattle.way_curve.proofs.FilteredSteps.{AddFiltered-append, AddFiltered-hit, AddFiltered-left, AddFiltered-nil}
use Rattle.way_curve.proofs.filtered_curves.filter_line.Goals as goal

pub note-requires : goal.note-requires
note-requires c =
    let first : uses_left c.loop-used.used-iterator ≡ c.in-Some.used ∷ uses_left c.next.new.self = c.in-Some.ensures.steps in
    record { room = omega (arith, ap length first, c.loop-used.invariant.count, c.requires.room) }

pub loop-used-preserved-then-is_left : goal.loop-used-preserved-then-is_left
loop-used-preserved-then-is_left c =
    let before = c.loop-used.invariant in
    let u = c.in-Some.used in
    let rest = uses_left c.next.new.self in
    let first : uses_left c.loop-used.used-iterator ≡ u ∷ rest = c.in-Some.ensures.steps in
    let now : FilteredValue = behind c.is_left.new.self c.note.new.self in
    let old : FilteredValue = behind c.loop-used.levels c.loop-used.sampled in
    let sees : SeesUse c.loop-used.levels c.is_left.new.self u true = subst (λ (b : Bool). SeesUse c.loop-used.levels c.is_left.new.self u b) c.if-is_left.true c.is_left.ensures in
    let one = AddFiltered-left c.loop-used.levels c.is_left.new.self c.loop-used.sampled c.note.new.self u sees c.note.ensures.sampled in
    record {
      next = tt;
      finite = tt;
      count = omega (arith, ap length first, before.count, c.note.ensures.uses);
      filtered = λ last more. before.filtered last (subst (λ (us : List LineUse). AddFiltered old last us) (sym first) (AddFiltered-append old now last (u ∷ []) rest one more));
    }

pub loop-used-preserved : goal.loop-used-preserved
loop-used-preserved c =
    let before = c.loop-used.invariant in
    let u = c.in-Some.used in
    let rest = uses_left c.next.new.self in
    let first : uses_left c.loop-used.used-iterator ≡ u ∷ rest = c.in-Some.ensures.steps in
    let now : FilteredValue = behind c.is_left.new.self c.loop-used.sampled in
    let old : FilteredValue = behind c.loop-used.levels c.loop-used.sampled in
    let sees : SeesUse c.loop-used.levels c.is_left.new.self u false = subst (λ (b : Bool). SeesUse c.loop-used.levels c.is_left.new.self u b) c.if-is_left.false c.is_left.ensures in
    let one = AddFiltered-hit c.loop-used.levels c.is_left.new.self c.loop-used.sampled u sees in
    record {
      next = tt;
      finite = tt;
      count = omega (arith, ap length first, before.count);
      filtered = λ last more. before.filtered last (subst (λ (us : List LineUse). AddFiltered old last us) (sym first) (AddFiltered-append old now last (u ∷ []) rest one more));
    }

pub returns-clause-filtered : goal.returns-clause-filtered
returns-clause-filtered c =
    let none : uses_left c.loop-used.used-iterator ≡ [] = c.in-None.ensures.steps.0 in
    let last : FilteredValue = behind c.loop-used.levels c.loop-used.sampled in
    c.loop-used.invariant.filtered last (subst (λ (us : List LineUse). AddFiltered last last us) (sym none) (AddFiltered-nil last))
