-- What uses add to what is played behind levels.
use Rattle.std.proofs.Common.{◌≡◌, ℕ, ◌<◌, ◌==◌, ◌++◌, Bool, true, false, List, [], ◌∷◌, length, set, get_or, Option, Some, None, sym, ap, ◌∙◌, subst, arith, inl, inr, append_assoc, length-set}
use Rattle.std.proofs.lemmas.Bool.{cases_Bool, eqb-false, eqb-true}
use Rattle.std.proofs.lemmas.Grind.{get_or-set_at}
use Rattle.std.proofs.lemmas.List.{append-nil, get_or-set_other}
use Rattle.lackey_text.specs.declared.uses.LineUse.{LineUse}
use Rattle.way_curve.specs.FirstLevels.{no_levels}
use Rattle.way_curve.specs.LevelSteps.{HaveSeen, LevelsValue, SeesUse}
use Rattle.way_curve.specs.declared.first_level.LevelShape.{LevelShape}
use Rattle.way_curve.specs.declared.first_levels.LevelShapes.{LevelShapes}
use Rattle.share_plans.specs.Filtering.{AddFiltered, FilteredValue, HaveFiltered, HaveSeenIf, SeeUse, behind}
use Rattle.share_plans.specs.LeftUses.{left_uses, line_use, own_uses}
use Rattle.share_plans.specs.Played.{HavePlayed, PlayUses, PlayedValue}
use Rattle.share_plans.specs.declared.program_use.ProgramUse.{ProgramUse}
use Rattle.share_plans.proofs.LeftUses.{leave_next-left, left_uses-none, left_uses-push, own_uses-other, own_uses-own}

-- shapes of no level
pub shapes-none : (shapes : LevelShapes) → shapes.l1 ≡ None → shapes.l2 ≡ None → shapes ≡ no_levels
shapes-none shapes first second =
    let own : Option LevelShape → Option LevelShape → LevelShapes = λ l1 l2. record { l1 = l1; l2 = l2 } in
    ap (λ (l1 : Option LevelShape). own l1 shapes.l2) first ∙ ap (λ (l2 : Option LevelShape). own None l2) second

-- a use more in the levels of its program
pub SeeUse-own : (old : List LevelsValue) (u : ProgramUse) (before own : LevelsValue) (left : Bool) → u.program < length old → before ≡ get_or old u.program before
    → SeesUse before own (line_use u) left → SeeUse old (set old u.program own) u left
SeeUse-own old u before own left within place sees = record {
  seen = λ shapes uses have k d below. elim (cases_Bool (u.program == k)) [
    | inl h ↦
        let same : k ≡ u.program = sym (eqb-true u.program k h) in
        let was : HaveSeen shapes before (own_uses k uses) =
        subst (λ (l : LevelsValue). HaveSeen shapes l (own_uses k uses)) (ap (λ (n : ℕ). get_or old n before) same ∙ sym place) (have k before (omega (arith, same, within))) in
        rw (get_or-set_at old u.program k own d same within)
        (subst (λ (us : List LineUse). HaveSeen shapes own us) (sym (own_uses-own k uses u h)) (sees.seen shapes (own_uses k uses) was))
    | inr h ↦
        rw (get_or-set_other old u.program k own d (λ same. eqb-false u.program k h (sym same)))
        (subst (λ (us : List LineUse). HaveSeen shapes (get_or old k d) us) (sym (own_uses-other k uses u h)) (have k d (omega (arith, below, length-set old u.program own))))
  ];
  is = λ shapes uses have.
      let earlier = own_uses u.program uses in
      leave_next-left shapes earlier (line_use u) left
      (sees.left shapes earlier (subst (λ (l : LevelsValue). HaveSeen shapes l earlier) (sym place) (have u.program before within)));
}

-- uses where there is no level
pub AddFiltered-none : (old new : FilteredValue) (more : List ProgramUse) → old.levels ≡ None → new.levels ≡ None → PlayUses old.played new.played more → AddFiltered old new more
AddFiltered-none old new more none still plays = λ filtering uses have.
    let is : filtering.levels ≡ no_levels = subst (λ (levels : Option (List LevelsValue)). HaveSeenIf filtering.levels levels uses) none have.seen in
    let all : HavePlayed filtering.asked old.played uses = subst (λ (us : List ProgramUse). HavePlayed filtering.asked old.played us) (left_uses-none filtering.levels uses is) have.played in
    record {
      seen = subst (λ (levels : Option (List LevelsValue)). HaveSeenIf filtering.levels levels (uses ++ more)) (sym still) is;
      played = subst (λ (us : List ProgramUse). HavePlayed filtering.asked new.played us) (sym (left_uses-none filtering.levels (uses ++ more) is)) (plays filtering.asked uses all);
    }

-- uses behind levels
pub AddFiltered-behind : (old new : FilteredValue) (before after : List LevelsValue) (more : List ProgramUse) → old.levels ≡ Some before → new.levels ≡ Some after
    → AddFiltered (behind before old.played) (behind after new.played) more → AddFiltered old new more
AddFiltered-behind old new before after more is now adds = λ filtering uses have.
    let added = adds filtering uses (record { seen = subst (λ (levels : Option (List LevelsValue)). HaveSeenIf filtering.levels levels uses) is have.seen; played = have.played }) in
    record { seen = subst (λ (levels : Option (List LevelsValue)). HaveSeenIf filtering.levels levels (uses ++ more)) (sym now) added.seen; played = added.played }

-- a use that the levels leave
pub AddFiltered-left : (before after : List LevelsValue) (old new : PlayedValue) (u : ProgramUse) → SeeUse before after u true → PlayUses old new (u ∷ [])
    → AddFiltered (behind before old) (behind after new) (u ∷ [])
AddFiltered-left before after old new u sees plays = λ filtering uses have. record {
  seen = sees.seen filtering.levels uses have.seen;
  played = subst (λ (us : List ProgramUse). HavePlayed filtering.asked new us) (sym (left_uses-push filtering.levels uses u true (sees.is filtering.levels uses have.seen)))
      (plays filtering.asked (left_uses filtering.levels uses) have.played);
}

-- and one that hits in them
pub AddFiltered-hit : (before after : List LevelsValue) (old : PlayedValue) (u : ProgramUse) → SeeUse before after u false → AddFiltered (behind before old) (behind after old) (u ∷ [])
AddFiltered-hit before after old u sees = λ filtering uses have. record {
  seen = sees.seen filtering.levels uses have.seen;
  played = subst (λ (us : List ProgramUse). HavePlayed filtering.asked old us)
      (sym (left_uses-push filtering.levels uses u false (sees.is filtering.levels uses have.seen) ∙ append-nil (left_uses filtering.levels uses))) have.played;
}

-- uses after uses
pub AddFiltered-append : (a b c : FilteredValue) (xs ys : List ProgramUse) → AddFiltered a b xs → AddFiltered b c ys → AddFiltered a c (xs ++ ys)
AddFiltered-append a b c xs ys first later = λ filtering uses have.
    subst (λ (us : List ProgramUse). HaveFiltered filtering c us) (append_assoc uses xs ys) (later filtering (uses ++ xs) (first filtering uses have))

-- no uses
pub AddFiltered-nil : (a : FilteredValue) → AddFiltered a a []
AddFiltered-nil a = λ filtering uses have. subst (λ (us : List ProgramUse). HaveFiltered filtering a us) (sym (append-nil uses)) have
