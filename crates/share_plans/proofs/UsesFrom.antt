-- What lines say together.
use Rattle.std.proofs.Common.{◌≡◌, ℕ, ◌+◌, List, [], ◌∷◌, ◌++◌, length, Option, Some, None, refl, sym, ap, ◌∙◌, arith, append_assoc}
use Rattle.std.specs.Prelude.{Result, Ok, Err}
use Rattle.std.proofs.lemmas.List.{append-nil}
use Rattle.share_plans.specs.declared.program_use.ProgramUse.{ProgramUse}
use Rattle.share_plans.specs.declared.step.Step.{Step}
use Rattle.share_plans.specs.Streams.{step_of, turn_after, turn_behind, uses_before, uses_from, uses_in, uses_with}

-- what lines say, and then others
abbrev pub and_then : Result (List ProgramUse) ℕ → Result (List ProgramUse) ℕ → Result (List ProgramUse) ℕ
and_then (Ok uses) later = uses_before uses later
and_then (Err bad) later = Err bad

-- nothing before lines
uses_before-nil : (later : Result (List ProgramUse) ℕ) → uses_before [] later ≡ later
uses_before-nil (Ok uses) = refl
uses_before-nil (Err bad) = refl

-- uses before uses
uses_before-append : (xs ys : List ProgramUse) (later : Result (List ProgramUse) ℕ) → uses_before xs (uses_before ys later) ≡ uses_before (xs ++ ys) later
uses_before-append xs ys (Ok uses) = ap Ok (sym (append_assoc xs ys uses))
uses_before-append xs ys (Err bad) = refl

-- a line before lines
and_then-uses_with : (n : ℕ) (step : Option Step) (first later : Result (List ProgramUse) ℕ) → uses_with n step (and_then first later) ≡ and_then (uses_with n step first) later
and_then-uses_with n None first later = refl
and_then-uses_with n (Some step) (Ok uses) later = uses_before-append (uses_in step) uses later
and_then-uses_with n (Some step) (Err bad) later = refl

module _ (programs : ℕ) where
  -- lines after lines
  uses_from-append : (n : ℕ) (turn : Option ℕ) (xs ys : List (List ℕ))
      → uses_from programs n turn (xs ++ ys) ≡ and_then (uses_from programs n turn xs) (uses_from programs (n + length xs) (turn_behind programs turn xs) ys)
  unfolding uses_from turn_behind
  uses_from-append n turn [] ys = sym (uses_before-nil (uses_from programs (n + 0) turn ys) ∙ ap (λ (k : ℕ). uses_from programs k turn ys) (omega arith))
  uses_from-append n turn (x ∷ xs) ys =
      let step = step_of programs turn x in
      let now = turn_after turn step in
      let more : n + 1 + length xs ≡ n + length (x ∷ xs) = omega arith in
      ap (λ (later : Result (List ProgramUse) ℕ). uses_with n step later)
      (uses_from-append (n + 1) now xs ys ∙ ap (λ (k : ℕ). and_then (uses_from programs (n + 1) now xs) (uses_from programs k (turn_behind programs now xs) ys)) more)
      ∙ and_then-uses_with n step (uses_from programs (n + 1) now xs) (uses_from programs (n + length (x ∷ xs)) (turn_behind programs now xs) ys)

  -- whose turn it is after one line more
  pub turn_behind-push : (turn : Option ℕ) (xs : List (List ℕ)) (x : List ℕ)
      → turn_behind programs turn (xs ++ x ∷ []) ≡ turn_after (turn_behind programs turn xs) (step_of programs (turn_behind programs turn xs) x)
  unfolding turn_behind
  turn_behind-push turn [] x = refl
  turn_behind-push turn (y ∷ xs) x = turn_behind-push (turn_after turn (step_of programs turn y)) xs x

  module _ (whole : List (List ℕ)) (uses : List ProgramUse) (said : uses_from programs 0 None whole ≡ Ok uses) where
    -- lines after good ones
    uses_from-good : (later : List (List ℕ)) → uses_from programs 0 None (whole ++ later) ≡ uses_before uses (uses_from programs (length whole) (turn_behind programs None whole) later)
    uses_from-good later =
        uses_from-append 0 None whole later ∙ (ap (λ (first : Result (List ProgramUse) ℕ). and_then first (uses_from programs (0 + length whole) (turn_behind programs None whole) later)) said
        ∙ ap (λ (k : ℕ). uses_before uses (uses_from programs k (turn_behind programs None whole) later)) (let same : 0 + length whole ≡ length whole = omega arith in same))

    -- no more lines
    pub uses_from-same : uses_from programs 0 None (whole ++ []) ≡ Ok uses
    uses_from-same = ap (λ (l : List (List ℕ)). uses_from programs 0 None l) (append-nil whole) ∙ said

    -- one good line more
    pub uses_from-one : (line : List ℕ) (step : Step) → step_of programs (turn_behind programs None whole) line ≡ Some step → uses_from programs 0 None (whole ++ line ∷ []) ≡ Ok (uses ++ uses_in step)
    unfolding uses_from
    uses_from-one line step is =
        uses_from-good (line ∷ []) ∙ (ap (λ (o : Option Step). uses_before uses (uses_with (length whole) o (Ok []))) is
        ∙ ap (λ (us : List ProgramUse). Ok (uses ++ us)) (append-nil (uses_in step)))

    -- a bad line, and whatever follows it
    pub uses_from-bad : (line : List ℕ) (later : List (List ℕ)) → step_of programs (turn_behind programs None whole) line ≡ None → uses_from programs 0 None (whole ++ line ∷ later) ≡ Err (length whole + 1)
    unfolding uses_from
    uses_from-bad line later is =
        uses_from-good (line ∷ later)
        ∙ ap (λ (o : Option Step). uses_before uses (uses_with (length whole) o (uses_from programs (length whole + 1) (turn_after (turn_behind programs None whole) (step_of programs (turn_behind programs None whole) line)) later))) is
