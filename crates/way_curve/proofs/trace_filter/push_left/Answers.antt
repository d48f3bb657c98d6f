use Rattle.std.proofs.Common.{◌≡◌, Bool, true, false, List, [], ◌∷◌, ◌<◌, length, refl, sym, ap, subst, ◌∙◌, arith}
use Rattle.std.proofs.lemmas.List.Elements.{All-head, All-tail}
use Rattle.lackey_text.proofs.laws.UseCounts.{length-uses_of}
use Rattle.lackey_text.specs.Uses.{uses_left, uses_of}
use Rattle.lackey_text.specs.declared.uses.LineUse.{LineUse}
use Rattle.way_curve.specs.FilterTexts.{AreInMemory}
use Rattle.way_curve.specs.Filters.{WritesLeft}
use Rattle.way_curve.specs.LevelSteps.{SeesUse}
use Rattle.way_curve.proofs.FilterSteps.{WritesLeft-append, WritesLeft-hit, WritesLeft-left, WritesLeft-nil}
use Rattle.way_curve.proofs.UseRanges.{AreInMemory-uses_of}
use Rattle.way_curve.proofs.trace_filter.push_left.Goals as goal

pub loop-used-init : goal.loop-used-init
loop-used-init c =
    let all : uses_left c.into_iter-used-iterator.result ≡ uses_of c.args.said.now = ap uses_left c.into_iter-used-iterator.ensures.into_iter_gives ∙ c.uses-used-items.ensures in
    record {
      next = tt;
      finite = tt;
      small = subst AreInMemory (sym all) (AreInMemory-uses_of c.args.said.now c.requires.memory);
      spare = omega (arith, ap length all, length-uses_of c.args.said.now c.requires.memory, c.requires.room);
      room = refl;
      left = λ now text more. subst (λ (us : List LineUse). WritesLeft c.args.levels.now now c.args.out.now.bytes text us) all more;
    }

pub push_use-requires : goal.push_use-requires
push_use-requires c =
    let first : uses_left c.loop-used.used-iterator ≡ c.in-Some.used ∷ uses_left c.next.new.self = c.in-Some.ensures.steps in
    let small : AreInMemory (c.in-Some.used ∷ uses_left c.next.new.self) = subst AreInMemory first c.loop-used.invariant.small in
    record {
      line = All-head (λ (u : LineUse). u.line < 4398046511104) c.in-Some.used (uses_left c.next.new.self) small;
      room = omega (arith, ap length first, c.loop-used.invariant.spare);
    }

pub loop-used-preserved-then-is_left : goal.loop-used-preserved-then-is_left
loop-used-preserved-then-is_left c =
    let before = c.loop-used.invariant in
    let u = c.in-Some.used in
    let rest = uses_left c.next.new.self in
    let first : uses_left c.loop-used.used-iterator ≡ u ∷ rest = c.in-Some.ensures.steps in
    let sees : SeesUse c.loop-used.levels c.is_left.new.self u true = subst (λ (b : Bool). SeesUse c.loop-used.levels c.is_left.new.self u b) c.if-is_left.true c.is_left.ensures in
    let old = c.loop-used.out.bytes in
    let new = c.push_use.new.out.bytes in
    let one = WritesLeft-left c.loop-used.levels c.is_left.new.self old new u sees c.push_use.ensures.bytes in
    record {
      next = tt;
      finite = tt;
      small = All-tail (λ (x : LineUse). x.line < 4398046511104) u rest (subst AreInMemory first before.small);
      spare = omega (arith, ap length first, before.spare, c.push_use.ensures.spare);
      room = c.push_use.ensures.room ∙ before.room;
      left = λ last text more. before.left last text (subst (λ (us : List LineUse). WritesLeft c.loop-used.levels last old text us) (sym first)
          (WritesLeft-append c.loop-used.levels c.is_left.new.self last old new text (u ∷ []) rest one more));
    }

pub loop-used-preserved : goal.loop-used-preserved
loop-used-preserved c =
    let before = c.loop-used.invariant in
    let u = c.in-Some.used in
    let rest = uses_left c.next.new.self in
    let first : uses_left c.loop-used.used-iterator ≡ u ∷ rest = c.in-Some.ensures.steps in
    let sees : SeesUse c.loop-used.levels c.is_left.new.self u false = subst (λ (b : Bool). SeesUse c.loop-used.levels c.is_left.new.self u b) c.if-is_left.false c.is_left.ensures in
    let old = c.loop-used.out.bytes in
    let one = WritesLeft-hit c.loop-used.levels c.is_left.new.self old u sees in
    record {
      next = tt;
      finite = tt;
      small = All-tail (λ (x : LineUse). x.line < 4398046511104) u rest (subst AreInMemory first before.small);
      spare = omega (arith, ap length first, before.spare);
      room = before.room;
      left = λ last text more. before.left last text (subst (λ (us : List LineUse). WritesLeft c.loop-used.levels last old text us) (sym first)
          (WritesLeft-append c.loop-used.levels c.is_left.new.self last old old text (u ∷ []) rest one more));
    }

pub returns-clause-left : goal.returns-clause-left
returns-clause-left c =
    let none : uses_left c.loop-used.used-iterator ≡ [] = c.in-None.ensures.steps.0 in
    let levels = c.loop-used.levels in
    let text = c.loop-used.out.bytes in
    c.loop-used.invariant.left levels text (subst (λ (us : List LineUse). WritesLeft levels levels text text us) (sym none) (WritesLeft-nil levels text))
