-- What uses add to the text that levels leave.
use Rattle.std.proofs.Common.{◌≡◌, ℕ, ◌++◌, true, false, List, [], ◌∷◌, sym, ap, ◌∙◌, subst, append_assoc}
use Rattle.std.proofs.lemmas.List.{append-nil}
use Rattle.lackey_text.specs.declared.uses.LineUse.{LineUse}
use Rattle.lists.proofs.Ranges.{flat_map-push}
use Rattle.way_curve.specs.FilterTexts.{filter_text, use_text, uses_text}
use Rattle.way_curve.specs.Filters.{WritesLeft}
use Rattle.way_curve.specs.FirstLevels.{left_by}
use Rattle.way_curve.specs.LevelSteps.{HaveSeen, LevelsValue, SeesUse}

-- a use that the levels leave
pub WritesLeft-left : (before after : LevelsValue) (old new : List ℕ) (u : LineUse) → SeesUse before after u true → new ≡ old ++ use_text u → WritesLeft before after old new (u ∷ [])
WritesLeft-left before after old new u sees adds = λ shapes uses written have same.
    let more : written ++ new ≡ (written ++ old) ++ use_text u = ap (λ (l : List ℕ). written ++ l) adds ∙ sym (append_assoc written old (use_text u)) in
    let text : written ++ new ≡ uses_text (left_by shapes uses ++ u ∷ []) = flat_map-push use_text (left_by shapes uses) u [] (written ++ old) (written ++ new) same more in
    (sees.seen shapes uses have, text ∙ sym (ap uses_text (sees.left shapes uses have)))

-- and one that hits in them
pub WritesLeft-hit : (before after : LevelsValue) (old : List ℕ) (u : LineUse) → SeesUse before after u false → WritesLeft before after old old (u ∷ [])
WritesLeft-hit before after old u sees = λ shapes uses written have same.
    (sees.seen shapes uses have, same ∙ sym (ap uses_text (sees.left shapes uses have ∙ append-nil (left_by shapes uses))))

-- uses after uses
pub WritesLeft-append : (a b c : LevelsValue) (x y z : List ℕ) (xs ys : List LineUse) → WritesLeft a b x y xs → WritesLeft b c y z ys → WritesLeft a c x z (xs ++ ys)
WritesLeft-append a b c x y z xs ys first later = λ shapes uses written have same.
    let one = first shapes uses written have same in
    let two = later shapes (uses ++ xs) written one.0 one.1 in
    subst (λ (us : List LineUse). HaveSeen shapes c us × (written ++ z ≡ filter_text shapes us)) (append_assoc uses xs ys) two

-- no uses
pub WritesLeft-nil : (a : LevelsValue) (x : List ℕ) → WritesLeft a a x x []
WritesLeft-nil a x = λ shapes uses written have same.
    subst (λ (us : List LineUse). HaveSeen shapes a us × (written ++ x ≡ filter_text shapes us)) (sym (append-nil uses)) (have, same)
