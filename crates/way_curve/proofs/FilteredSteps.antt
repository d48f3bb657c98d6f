-- What uses add to curves behind levels.
use Rattle.std.proofs.Common.{◌≡◌, ◌++◌, true, false, List, [], ◌∷◌, Option, Some, None, sym, ap, ◌∙◌, subst, append_assoc}
use Rattle.std.proofs.lemmas.List.{append-nil}
use Rattle.lackey_text.specs.declared.uses.LineUse.{LineUse}
use Rattle.way_curve.specs.Filtering.{AddFiltered, FilteredValue, HaveFiltered, HaveSeenIf, behind}
use Rattle.way_curve.specs.FirstLevels.{left_by, no_levels}
use Rattle.way_curve.specs.LevelSteps.{LevelsValue, SeesUse}
use Rattle.way_curve.specs.Sampling.{AddSampled, HaveSampled, SampledValue}
use Rattle.way_curve.specs.declared.first_level.LevelShape.{LevelShape}
use Rattle.way_curve.specs.declared.first_levels.LevelShapes.{LevelShapes}

-- shapes of no level
pub shapes-none : (shapes : LevelShapes) → shapes.l1 ≡ None → shapes.l2 ≡ None → shapes ≡ no_levels
shapes-none shapes first second =
    let own : Option LevelShape → Option LevelShape → LevelShapes = λ l1 l2. record { l1 = l1; l2 = l2 } in
    ap (λ (l1 : Option LevelShape). own l1 shapes.l2) first ∙ ap (λ (l2 : Option LevelShape). own None l2) second

-- uses where there is no level
pub AddFiltered-none : (old new : FilteredValue) (more : List LineUse) → old.levels ≡ None → new.levels ≡ None → AddSampled old.sampled new.sampled more → AddFiltered old new more
AddFiltered-none old new more none still adds = λ filtering uses have.
    let is : filtering.levels ≡ no_levels = subst (λ (levels : Option LevelsValue). HaveSeenIf filtering.levels levels uses) none have.seen in
    let all : HaveSampled filtering.sampling old.sampled uses = subst (λ (shapes : LevelShapes). HaveSampled filtering.sampling old.sampled (left_by shapes uses)) is have.counted in
    record {
      seen = subst (λ (levels : Option LevelsValue). HaveSeenIf filtering.levels levels (uses ++ more)) (sym still) is;
      counted = subst (λ (shapes : LevelShapes). HaveSampled filtering.sampling new.sampled (left_by shapes (uses ++ more))) (sym is) (adds filtering.sampling uses all);
    }

-- uses behind levels
pub AddFiltered-behind : (old new : FilteredValue) (before after : LevelsValue) (more : List LineUse) → old.levels ≡ Some before → new.levels ≡ Some after
    → AddFiltered (behind before old.sampled) (behind after new.sampled) more → AddFiltered old new more
AddFiltered-behind old new before after more is now adds = λ filtering uses have.
    let added = adds filtering uses (record { seen = subst (λ (levels : Option LevelsValue). HaveSeenIf filtering.levels levels uses) is have.seen; counted = have.counted }) in
    record { seen = subst (λ (levels : Option LevelsValue). HaveSeenIf filtering.levels levels (uses ++ more)) (sym now) added.seen; counted = added.counted }

-- a use that the levels leave
pub AddFiltered-left : (before after : LevelsValue) (old new : SampledValue) (u : LineUse) → SeesUse before after u true → AddSampled old new (u ∷ [])
    → AddFiltered (behind before old) (behind after new) (u ∷ [])
AddFiltered-left before after old new u sees adds = λ filtering uses have. record {
  seen = sees.seen filtering.levels uses have.seen;
  counted = subst (λ (us : List LineUse). HaveSampled filtering.sampling new us) (sym (sees.left filtering.levels uses have.seen)) (adds filtering.sampling (left_by filtering.levels uses) have.counted);
}

-- and one that hits in them
pub AddFiltered-hit : (before after : LevelsValue) (old : SampledValue) (u : LineUse) → SeesUse before after u false → AddFiltered (behind before old) (behind after old) (u ∷ [])
AddFiltered-hit before after old u sees = λ filtering uses have. record {
  seen = sees.seen filtering.levels uses have.seen;
  counted = subst (λ (us : List LineUse). HaveSampled filtering.sampling old us) (sym (sees.left filtering.levels uses have.seen ∙ append-nil (left_by filtering.levels uses))) have.counted;
}

-- uses after uses
pub AddFiltered-append : (a b c : FilteredValue) (xs ys : List LineUse) → AddFiltered a b xs → AddFiltered b c ys → AddFiltered a c (xs ++ ys)
AddFiltered-append a b c xs ys first later = λ filtering uses have. subst (λ (us : List LineUse). HaveFiltered filtering c us) (append_assoc uses xs ys) (later filtering (uses ++ xs) (first filtering uses have))

-- no uses
pub AddFiltered-nil : (a : FilteredValue) → AddFiltered a a []
AddFiltered-nil a = λ filtering uses have. subst (λ (us : List LineUse). HaveFiltered filtering a us) (sym (append-nil uses)) have
