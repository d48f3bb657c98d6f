-- The lines of a stream of several programs that have ended.
use Rattle.std.proofs.Common.{◌≡◌, ℕ, ◌+◌, List, [], ◌∷◌, ◌++◌, length, drop, Option, Some, None, refl, sym, subst, ap, ◌∙◌, arith, append_assoc, length-append}
use Rattle.std.specs.Prelude.{Result, Ok, Err, IsOk}
use Rattle.std.specs.Str.Lines.{lines}
use Rattle.way_curve.proofs.laws.FirstLines.{IsOpen-more, IsOpen-nil, lines-last}
use Rattle.share_plans.specs.Reading.{IsGood, StreamValue}
use Rattle.share_plans.specs.Streams.{step_of, turn_after, uses_from, uses_with}
use Rattle.share_plans.specs.declared.program_use.ProgramUse.{ProgramUse}
use Rattle.share_plans.specs.declared.step.Step.{Step}
use Rattle.plan_top.specs.ShareForms.{ShareWords}
use Rattle.plan_top.specs.Shares.{HasNoBadTurn, asked_by}
use Rattle.plan_top.proofs.EndedLines.{front-of, lines-ended, lines-some}

-- a line before others that are good if those are
uses_with-front : (n : ℕ) (step : Option Step) (all front : Result (List ProgramUse) ℕ) → IsOk (uses_with n step all) → (IsOk all → IsOk front) → IsOk (uses_with n step front)
uses_with-front n None all front ok good = ok
uses_with-front n (Some step) (Ok uses) (Ok fewer) ok good = refl
uses_with-front n (Some step) (Ok uses) (Err bad) ok good = good refl
uses_with-front n (Some step) (Err bad) (Ok fewer) ok good = refl
uses_with-front n (Some step) (Err bad) (Err worse) ok good = ok

-- the first of good lines are good
uses_from-front : (programs n : ℕ) (turn : Option ℕ) (xs ys : List (List ℕ)) → IsOk (uses_from programs n turn (xs ++ ys)) → IsOk (uses_from programs n turn xs)
unfolding uses_from
uses_from-front programs n turn [] ys ok = refl
uses_from-front programs n turn (x ∷ xs) ys ok =
    let now = turn_after turn (step_of programs turn x) in
    uses_with-front n (step_of programs turn x) (uses_from programs (n + 1) now (xs ++ ys)) (uses_from programs (n + 1) now xs) ok (uses_from-front programs (n + 1) now xs ys)

-- no bytes have no line
pub HasNoBadTurn-nil : (form : ShareWords) → HasNoBadTurn form []
HasNoBadTurn-nil form = λ ended rest is. let counts = ap length is in absurd (omega (arith, counts, length-append ended (10 ∷ rest)))

-- bytes that are read well
pub HasNoBadTurn-good : (form : ShareWords) (s : StreamValue) (bytes : List ℕ) → IsGood (asked_by form) s bytes → HasNoBadTurn form bytes
HasNoBadTurn-good form s bytes good = λ ended rest is.
    let programs = length form.wishes in
    let last = s.rest ++ 97 ∷ [] in
    let one : lines last ≡ last ∷ [] = lines-last last (IsOpen-more s.rest 97 refl good.is_open) (omega (arith, length-append s.rest (97 ∷ []))) in
    let by_stream : lines (bytes ++ 97 ∷ []) ≡ good.whole ++ last ∷ [] = good.begins (97 ∷ []) ∙ ap (λ (ls : List (List ℕ)). good.whole ++ ls) one in
    let first = lines (ended ++ 10 ∷ []) in
    let later = lines (rest ++ 97 ∷ []) in
    let by_text : lines (bytes ++ 97 ∷ []) ≡ first ++ later =
    ap (λ (text : List ℕ). lines (text ++ 97 ∷ [])) is ∙ (ap lines (append_assoc ended (10 ∷ rest) (97 ∷ [])) ∙ lines-ended [] ended (rest ++ 97 ∷ []) IsOpen-nil) in
    let front = front-of first later good.whole last (sym by_text ∙ by_stream) (lines-some [] rest IsOpen-nil) in
    let whole : IsOk (uses_from programs 0 None good.whole) = subst (λ (said : Result (List ProgramUse) ℕ). IsOk said) (sym good.said) refl in
    uses_from-front programs 0 None first (drop (length first) good.whole) (subst (λ (ls : List (List ℕ)). IsOk (uses_from programs 0 None ls)) front whole)
