-- The lines of a trace that have ended.
use Rattle.std.proofs.Common.{◌≡◌, ℕ, ◌+◌, ◌<◌, ◌≤◌, ◌==◌, List, [], ◌∷◌, ◌++◌, length, take, drop, Option, Some, None, refl, sym, subst, ap, ◌∙◌, arith, append_assoc, inl, inr, length-append}
use Rattle.std.specs.Prelude.{Result, Ok, Err, IsOk}
use Rattle.std.specs.Str.Lines.{lines, strip_carriage_return}
use Rattle.std.proofs.lemmas.Bool.{cases_Bool, eqb-true}
use Rattle.std.proofs.lemmas.List.{take_all, take-append-drop, take-append-le}
use Rattle.lackey_text.specs.declared.line.LackeyLine.{LackeyLine}
use Rattle.lackey_text.specs.declared.uses.LineUse.{LineUse}
use Rattle.way_curve.proofs.laws.FirstLines.{IsOpen-more, IsOpen-nil, lines-last, lines-newline}
use Rattle.way_curve.specs.FilterTexts.{IsFilteredSoFar}
use Rattle.way_curve.specs.Reading.{BeginsWith, IsGood, IsOpen, TraceValue}
use Rattle.way_curve.specs.Filtering.{Filtering}
use Rattle.way_curve.specs.TraceTexts.{said_of, uses_from, uses_with}
use Rattle.way_curve.specs.declared.first_levels.LevelShapes.{LevelShapes}
use Rattle.plan_top.specs.Beginnings.{HasNoBadLine}

-- what follows a newline has lines of its own
pub lines-ended : (rest ended more : List ℕ) → IsOpen rest → lines (rest ++ (ended ++ 10 ∷ more)) ≡ lines (rest ++ (ended ++ 10 ∷ [])) ++ lines more
lines-ended rest [] more is_open = lines-newline rest more is_open ∙ sym (ap (λ (ls : List (List ℕ)). ls ++ lines more) (lines-newline rest [] is_open))
lines-ended rest (b ∷ ended) more is_open = elim (cases_Bool (b == 10)) [
  | inl h ↦
      let newline = eqb-true b 10 h in
      let all = ap (λ (c : ℕ). lines (rest ++ c ∷ (ended ++ 10 ∷ more))) newline ∙ lines-newline rest (ended ++ 10 ∷ more) is_open in
      let first = ap (λ (c : ℕ). lines (rest ++ c ∷ (ended ++ 10 ∷ []))) newline ∙ lines-newline rest (ended ++ 10 ∷ []) is_open in
      all ∙ (ap (λ (ls : List (List ℕ)). strip_carriage_return rest ∷ ls) (lines-ended [] ended more IsOpen-nil) ∙ sym (ap (λ (ls : List (List ℕ)). ls ++ lines more) first))
  | inr h ↦
      ap lines (sym (append_assoc rest (b ∷ []) (ended ++ 10 ∷ more))) ∙ (lines-ended (rest ++ b ∷ []) ended more (IsOpen-more rest b h is_open)
      ∙ ap (λ (t : List ℕ). lines t ++ lines more) (append_assoc rest (b ∷ []) (ended ++ 10 ∷ [])))
]

-- a text that ends with a letter has a line
pub lines-some : (rest text : List ℕ) → IsOpen rest → 0 < length (lines (rest ++ (text ++ 97 ∷ [])))
lines-some rest [] is_open =
    rw (lines-last (rest ++ 97 ∷ []) (IsOpen-more rest 97 refl is_open) (omega (arith, length-append rest (97 ∷ [])))) (omega arith)
lines-some rest (b ∷ text) is_open = elim (cases_Bool (b == 10)) [
  | inl h ↦ rw (ap (λ (c : ℕ). lines (rest ++ c ∷ (text ++ 97 ∷ []))) (eqb-true b 10 h) ∙ lines-newline rest (text ++ 97 ∷ []) is_open) (omega arith)
  | inr h ↦ subst (λ (t : List ℕ). 0 < length (lines t)) (append_assoc rest (b ∷ []) (text ++ 97 ∷ [])) (lines-some (rest ++ b ∷ []) text (IsOpen-more rest b h is_open))
]

-- a line before others that are good if those are
uses_with-front : (n : ℕ) (said : Option LackeyLine) (all front : Result (List LineUse) ℕ) → IsOk (uses_with n said all) → (IsOk all → IsOk front) → IsOk (uses_with n said front)
uses_with-front n None all front ok good = ok
uses_with-front n (Some said) (Ok uses) (Ok fewer) ok good = refl
uses_with-front n (Some said) (Ok uses) (Err bad) ok good = good refl
uses_with-front n (Some said) (Err bad) (Ok fewer) ok good = refl
uses_with-front n (Some said) (Err bad) (Err worse) ok good = ok

-- the first of good lines are good
uses_from-front : (n : ℕ) (xs ys : List (List ℕ)) → IsOk (uses_from n (xs ++ ys)) → IsOk (uses_from n xs)
unfolding uses_from
uses_from-front n [] ys ok = refl
uses_from-front n (x ∷ xs) ys ok = uses_with-front n (said_of x) (uses_from (n + 1) (xs ++ ys)) (uses_from (n + 1) xs) ok (uses_from-front (n + 1) xs ys)

-- the first of two lists that are others, of which the last has one element
pub front-of : (first later whole : List (List ℕ)) (last : List ℕ) → first ++ later ≡ whole ++ last ∷ [] → 0 < length later → whole ≡ first ++ drop (length first) whole
front-of first later whole last same some =
    let n = length first in
    let counts = ap length same in
    let few : n ≤ length whole = omega (arith, counts, length-append first later, length-append whole (last ∷ []), some) in
    let of_first : take n (first ++ later) ≡ first = take-append-le n first later (omega arith) ∙ take_all n first (omega arith) in
    let of_whole : take n (whole ++ last ∷ []) ≡ take n whole = take-append-le n whole (last ∷ []) few in
    let front : take n whole ≡ first = sym of_whole ∙ (ap (take n) (sym same) ∙ of_first) in
    sym (take-append-drop n whole) ∙ ap (λ (ls : List (List ℕ)). ls ++ drop n whole) front

-- no bytes have no line
pub HasNoBadLine-nil : HasNoBadLine []
HasNoBadLine-nil = λ ended rest is. let counts = ap length is in absurd (omega (arith, counts, length-append ended (10 ∷ rest)))

-- bytes whose whole lines are good
HasNoBadLine-begins : (bytes : List ℕ) (whole : List (List ℕ)) (left : List ℕ) (uses : List LineUse) → BeginsWith bytes whole left → IsOpen left → uses_from 0 whole ≡ Ok uses → HasNoBadLine bytes
HasNoBadLine-begins bytes whole left uses begins is_open said = λ ended rest is.
    let last = left ++ 97 ∷ [] in
    let one : lines last ≡ last ∷ [] = lines-last last (IsOpen-more left 97 refl is_open) (omega (arith, length-append left (97 ∷ []))) in
    let by_trace : lines (bytes ++ 97 ∷ []) ≡ whole ++ last ∷ [] = begins (97 ∷ []) ∙ ap (λ (ls : List (List ℕ)). whole ++ ls) one in
    let first = lines (ended ++ 10 ∷ []) in
    let later = lines (rest ++ 97 ∷ []) in
    let by_text : lines (bytes ++ 97 ∷ []) ≡ first ++ later =
    ap (λ (text : List ℕ). lines (text ++ 97 ∷ [])) is ∙ (ap lines (append_assoc ended (10 ∷ rest) (97 ∷ [])) ∙ lines-ended [] ended (rest ++ 97 ∷ []) IsOpen-nil) in
    let front = front-of first later whole last (sym by_text ∙ by_trace) (lines-some [] rest IsOpen-nil) in
    let good : IsOk (uses_from 0 whole) = subst (λ (said : Result (List LineUse) ℕ). IsOk said) (sym said) refl in
    uses_from-front 0 first (drop (length first) whole) (subst (λ (ls : List (List ℕ)). IsOk (uses_from 0 ls)) front good)

-- bytes that are read well
pub HasNoBadLine-good : (filtering : Filtering) (t : TraceValue) (bytes : List ℕ) → IsGood filtering t bytes → HasNoBadLine bytes
HasNoBadLine-good filtering t bytes good = HasNoBadLine-begins bytes good.whole t.rest good.uses good.begins good.is_open good.said

-- bytes that are filtered so far
pub HasNoBadLine-filtered : (levels : LevelShapes) (bytes text : List ℕ) → IsFilteredSoFar levels bytes text → HasNoBadLine bytes
HasNoBadLine-filtered levels bytes text is = HasNoBadLine-begins bytes is.whole is.rest is.uses is.begins is.is_open is.said
