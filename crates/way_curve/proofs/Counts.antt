-- Curves that have counted one use more.
use Rattle.std.proofs.Common.{◌≡◌, ℕ, ◌++◌, List, [], ◌∷◌, sym, subst, append_assoc}
use Rattle.std.proofs.lemmas.List.{append-nil}
use Rattle.lackey_text.specs.declared.uses.LineUse.{LineUse}
use Rattle.way_curve.specs.IsCurve.{AddsUse, CurveValue}
use Rattle.way_curve.specs.Counting.{AddUses, CurvesValue, HaveCounted, IsCurveOf}

-- the curve of one line more
IsCurveOf-more : (sets : ℕ) (old new : CurveValue) (lines : List ℕ) (line : ℕ) → new.sets ≡ old.sets → AddsUse old new line → IsCurveOf sets old lines → IsCurveOf sets new (lines ++ line ∷ [])
IsCurveOf-more sets old new lines line same more is =
    record { has_sets = subst (λ (n : ℕ). n ≡ sets) (sym same) is.has_sets; is_curve = more lines is.is_curve }

-- uses after uses
pub AddUses-append : (a b c : CurvesValue) (xs ys : List LineUse) → AddUses a b xs → AddUses b c ys → AddUses a c (xs ++ ys)
AddUses-append a b c xs ys first later = λ sets uses have. subst (λ (us : List LineUse). HaveCounted sets c us) (append_assoc uses xs ys) (later sets (uses ++ xs) (first sets uses have))

-- no uses
pub AddUses-nil : (a : CurvesValue) → AddUses a a []
AddUses-nil a = λ sets uses have. subst (λ (us : List LineUse). HaveCounted sets a us) (sym (append-nil uses)) have
