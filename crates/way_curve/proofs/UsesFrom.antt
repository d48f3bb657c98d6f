-- What lines say together.
use Rattle.std.proofs.Common.{◌≡◌, ℕ, ◌+◌, List, [], ◌∷◌, ◌++◌, length, Option, Some, None, refl, sym, ap, ◌∙◌, arith, append_assoc}
use Rattle.std.specs.Prelude.{Result, Ok, Err}
use Rattle.std.proofs.lemmas.List.{append-nil}
use Rattle.lackey_text.specs.declared.line.LackeyLine.{LackeyLine}
use Rattle.lackey_text.specs.declared.uses.LineUse.{LineUse}
use Rattle.lackey_text.specs.Uses.{uses_of}
use Rattle.way_curve.specs.TraceTexts.{said_of, uses_before, uses_from, uses_with}

-- what lines say, and then others
abbrev pub and_then : Result (List LineUse) ℕ → Result (List LineUse) ℕ → Result (List LineUse) ℕ
and_then (Ok uses) later = uses_before uses later
and_then (Err bad) later = Err bad

-- nothing before lines
uses_before-nil : (later : Result (List LineUse) ℕ) → uses_before [] later ≡ later
uses_before-nil (Ok uses) = refl
uses_before-nil (Err bad) = refl

-- uses before uses
uses_before-append : (xs ys : List LineUse) (later : Result (List LineUse) ℕ) → uses_before xs (uses_before ys later) ≡ uses_before (xs ++ ys) later
uses_before-append xs ys (Ok uses) = ap Ok (sym (append_assoc xs ys uses))
uses_before-append xs ys (Err bad) = refl

-- a line before lines
and_then-uses_with : (n : ℕ) (said : Option LackeyLine) (first later : Result (List LineUse) ℕ) → uses_with n said (and_then first later) ≡ and_then (uses_with n said first) later
and_then-uses_with n None first later = refl
and_then-uses_with n (Some said) (Ok uses) later = uses_before-append (uses_of said) uses later
and_then-uses_with n (Some said) (Err bad) later = refl

-- lines after lines
uses_from-append : (n : ℕ) (xs ys : List (List ℕ)) → uses_from n (xs ++ ys) ≡ and_then (uses_from n xs) (uses_from (n + length xs) ys)
unfolding uses_from
uses_from-append n [] ys = sym (uses_before-nil (uses_from (n + 0) ys) ∙ ap (λ (k : ℕ). uses_from k ys) (omega arith))
uses_from-append n (x ∷ xs) ys =
    let more : n + 1 + length xs ≡ n + length (x ∷ xs) = omega arith in
    ap (λ (later : Result (List LineUse) ℕ). uses_with n (said_of x) later) (uses_from-append (n + 1) xs ys ∙ ap (λ (k : ℕ). and_then (uses_from (n + 1) xs) (uses_from k ys)) more)
    ∙ and_then-uses_with n (said_of x) (uses_from (n + 1) xs) (uses_from (n + length (x ∷ xs)) ys)

module _ (whole : List (List ℕ)) (uses : List LineUse) (said : uses_from 0 whole ≡ Ok uses) where
  -- lines after good ones
  pub uses_from-good : (later : List (List ℕ)) → uses_from 0 (whole ++ later) ≡ uses_before uses (uses_from (length whole) later)
  uses_from-good later =
      uses_from-append 0 whole later ∙ (ap (λ (first : Result (List LineUse) ℕ). and_then first (uses_from (0 + length whole) later)) said
      ∙ ap (λ (k : ℕ). uses_before uses (uses_from k later)) (let same : 0 + length whole ≡ length whole = omega arith in same))

  -- no more lines
  pub uses_from-same : uses_from 0 (whole ++ []) ≡ Ok uses
  uses_from-same = ap (λ (l : List (List ℕ)). uses_from 0 l) (append-nil whole) ∙ said

  -- one good line more
  pub uses_from-one : (line : List ℕ) (last : LackeyLine) → said_of line ≡ Some last → uses_from 0 (whole ++ line ∷ []) ≡ Ok (uses ++ uses_of last)
  unfolding uses_from
  uses_from-one line last is =
      uses_from-good (line ∷ []) ∙ (ap (λ (o : Option LackeyLine). uses_before uses (uses_with (length whole) o (Ok []))) is
      ∙ ap (λ (us : List LineUse). Ok (uses ++ us)) (append-nil (uses_of last)))

  -- a bad line, and whatever follows it
  pub uses_from-bad : (line : List ℕ) (later : List (List ℕ)) → said_of line ≡ None → uses_from 0 (whole ++ line ∷ later) ≡ Err (length whole + 1)
  unfolding uses_from
  uses_from-bad line later is =
      uses_from-good (line ∷ later) ∙ ap (λ (o : Option LackeyLine). uses_before uses (uses_with (length whole) o (uses_from (length whole + 1) later))) is
