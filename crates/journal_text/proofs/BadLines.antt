-- A text has one bad line at most.
use Rattle.std.proofs.Common.{◌≡◌, ℕ, ◌+◌, ◌-◌, ◌<◌, ◌≤◌, List, ◌++◌, take, drop, inl, inr, sym, ap, ◌∙◌, arith, append_assoc}
use Rattle.std.proofs.lemmas.Bool.{cases_lt}
use Rattle.std.proofs.lemmas.List.{take-append-drop, take-take}
use Rattle.journal_text.specs.Readings.{Begins, IsBadLine, whole_lines}
use Rattle.script_ops.specs.Values.{ScriptValue}

-- what begins with lines begins with fewer of them
Begins-take : (script : ScriptValue) (lines : List (List ℕ)) (m n : ℕ) → m ≤ n → Begins script (take n lines) → Begins script (take m lines)
Begins-take script lines m n fewer begins =
    let front = take n lines in
    let parted : take m lines ++ drop m front ≡ front = ap (λ (ls : List (List ℕ)). ls ++ drop m front) (sym (take-take m n lines fewer)) ∙ take-append-drop m front in
    record {
      journals = begins.journals;
      rest = drop m front ++ begins.rest;
      writable = begins.writable;
      whole = begins.whole ∙ ap (λ (ls : List (List ℕ)). ls ++ begins.rest) (sym parted) ∙ append_assoc (take m lines) (drop m front) begins.rest;
    }

-- of two bad lines none is before the other
IsBadLine-not_lt : (script : ScriptValue) (text : List ℕ) (a b : ℕ) → IsBadLine script text a → IsBadLine script text b → a < b → ⊥
IsBadLine-not_lt script text a b one two before = one.bad (omega (arith, two.to_last, before)) (Begins-take script (whole_lines text) a (b - 1) (omega (arith, before)) two.before)

-- so they are one
pub IsBadLine-same : (script : ScriptValue) (text : List ℕ) (a b : ℕ) → IsBadLine script text a → IsBadLine script text b → a ≡ b
IsBadLine-same script text a b one two =
    elim (cases_lt a b) [
      | inl lt ↦ absurd (IsBadLine-not_lt script text a b one two lt)
      | inr le ↦ elim (cases_lt b a) [
        | inl lt ↦ absurd (IsBadLine-not_lt script text b a two one lt)
        | inr ge ↦ omega (arith, le, ge)
      ]
    ]
