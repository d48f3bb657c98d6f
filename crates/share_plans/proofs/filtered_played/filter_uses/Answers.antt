use Rattle.std.proofs.Common.{◌≡◌, ◌<◌, ◌^◌, Bool, true, false, List, [], ◌∷◌, All, Some, length, sym, ap, ◌∙◌, refl, subst, arith}
use Rattle.std.proofs.lemmas.List.Elements.{All-head, All-tail}
use Rattle.lackey_text.specs.Uses.{uses_left, uses_of}
use Rattle.lackey_text.specs.declared.uses.LineUse.{LineUse}
use Rattle.share_plans.specs.Filtering.{AddFiltered, FilteredValue, SeeUse, behind}
use Rattle.share_plans.specs.Streams.{uses_by}
use Rattle.share_plans.specs.declared.program_use.ProgramUse.{ProgramUse}
use Rattle.share_plans.proofs.FilteredSteps.{AddFiltered-append, AddFiltered-hit, AddFiltered-left, AddFiltered-nil}
use Rattle.share_plans.proofs.NearLines.{All-uses_of}
use Rattle.share_plans.proofs.filtered_played.filter_uses.Goals as goal

pub loop-used-init : goal.loop-used-init
loop-used-init c =
    let from : uses_left c.into_iter-used-iterator.result ≡ uses_of c.args.said.now = ap uses_left c.into_iter-used-iterator.ensures.into_iter_gives ∙ c.uses-used-items.ensures in
    record {
      next = tt;
      finite = tt;
      levels = refl;
      programs = refl;
      near = subst (λ (us : List LineUse). All (λ (u : LineUse). u.line < 2 ^ 42) us) (sym from) (All-uses_of c.args.said.now c.requires.memory);
      count = omega (arith, ap length from);
      filtered = λ now more. subst (λ (us : List LineUse). AddFiltered (behind c.args.levels.now c.args.played.now) now (uses_by (Some c.args.program) us)) from more;
    }

pub note-requires : goal.note-requires
note-requires c =
    let rest = uses_left c.next.new.self in
    let before = c.loop-used.invariant in
    let first : uses_left c.loop-used.used-iterator ≡ c.in-Some.used ∷ rest = c.in-Some.ensures.steps in
    let near = subst (λ (us : List LineUse). All (λ (u : LineUse). u.line < 2 ^ 42) us) first before.near in
    record {
      program = omega (arith, before.programs, c.requires.program);
      line = All-head (λ (u : LineUse). u.line < 2 ^ 42) c.in-Some.used rest near;
      room = omega (arith, ap length first, before.count, c.requires.room);
    }

pub loop-used-preserved-then-is_left : goal.loop-used-preserved-then-is_left
loop-used-preserved-then-is_left c =
    let before = c.loop-used.invariant in
    let rest = uses_left c.next.new.self in
    let first : uses_left c.loop-used.used-iterator ≡ c.in-Some.used ∷ rest = c.in-Some.ensures.steps in
    let near = subst (λ (us : List LineUse). All (λ (u : LineUse). u.line < 2 ^ 42) us) first before.near in
    let u : ProgramUse = record { program = c.args.program; line = c.in-Some.used.line; code = c.in-Some.used.code } in
    let levels = c.loop-used.levels in
    let old : FilteredValue = behind levels c.loop-used.played in
    let now : FilteredValue = behind c.is_left.new.self c.note.new.self in
    let sees : SeeUse levels c.is_left.new.self u true = subst (λ (b : Bool). SeeUse levels c.is_left.new.self u b) c.if-is_left.true c.is_left.ensures.sees in
    let one = AddFiltered-left levels c.is_left.new.self c.loop-used.played c.note.new.self u sees c.note.ensures.played in
    record {
      next = tt;
      finite = tt;
      levels = c.is_left.ensures.count ∙ before.levels;
      programs = c.note.ensures.count ∙ before.programs;
      near = All-tail (λ (u : LineUse). u.line < 2 ^ 42) c.in-Some.used rest near;
      count = omega (arith, ap length first, before.count, c.note.ensures.uses);
      filtered = λ last more. before.filtered last (subst (λ (us : List LineUse). AddFiltered old last (uses_by (Some c.args.program) us)) (sym first)
          (AddFiltered-append old now last (u ∷ []) (uses_by (Some c.args.program) rest) one more));
    }

pub loop-used-preserved : goal.loop-used-preserved
loop-used-preserved c =
    let before = c.loop-used.invariant in
    let rest = uses_left c.next.new.self in
    let first : uses_left c.loop-used.used-iterator ≡ c.in-Some.used ∷ rest = c.in-Some.ensures.steps in
    let near = subst (λ (us : List LineUse). All (λ (u : LineUse). u.line < 2 ^ 42) us) first before.near in
    let u : ProgramUse = record { program = c.args.program; line = c.in-Some.used.line; code = c.in-Some.used.code } in
    let levels = c.loop-used.levels in
    let old : FilteredValue = behind levels c.loop-used.played in
    let now : FilteredValue = behind c.is_left.new.self c.loop-used.played in
    let sees : SeeUse levels c.is_left.new.self u false = subst (λ (b : Bool). SeeUse levels c.is_left.new.self u b) c.if-is_left.false c.is_left.ensures.sees in
    let one = AddFiltered-hit levels c.is_left.new.self c.loop-used.played u sees in
    record {
      next = tt;
      finite = tt;
      levels = c.is_left.ensures.count ∙ before.levels;
      programs = before.programs;
      near = All-tail (λ (u : LineUse). u.line < 2 ^ 42) c.in-Some.used rest near;
      count = omega (arith, ap length first, before.count);
      filtered = λ last more. before.filtered last (subst (λ (us : List LineUse). AddFiltered old last (uses_by (Some c.args.program) us)) (sym first)
          (AddFiltered-append old now last (u ∷ []) (uses_by (Some c.args.program) rest) one more));
    }

pub returns-clause-filtered : goal.returns-clause-filtered
returns-clause-filtered c =
    let none : uses_left c.loop-used.used-iterator ≡ [] = c.in-None.ensures.steps.0 in
    let last : FilteredValue = behind c.loop-used.levels c.loop-used.played in
    c.loop-used.invariant.filtered last (subst (λ (us : List LineUse). AddFiltered last last (uses_by (Some c.args.program) us)) (sym none) (AddFiltered-nil last))
