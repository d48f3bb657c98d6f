-- Which slices the lines of a region go to, and how many numbers pass a test that one alone can pass.
use Rattle.std.proofs.Common.{◌≡◌, ℕ, ◌+◌, ◌*◌, ◌/◌, ◌%◌, ◌≤◌, Bool, true, false, cond, List, [], ◌∷◌, length, filter, ap, ◌∙◌, inl, inr, arith}
use Rattle.std.specs.Prelude.{◌==◌}
use Rattle.std.proofs.lemmas.Bool.{cases_Bool}
use Rattle.std.proofs.Math.Nat.{mul-add-mod_self_right}
use Rattle.std.proofs.lemmas.Nat.{div-add-mod'}
use Rattle.machine.specs.Maps.{slice_of}
use Rattle.machine.specs.Slices.{slice_number, slice_of_line}
use Rattle.machine.specs.declared.parameters.Parameters.{Parameters}

-- after a line of set 0 the slices of lines are those of the lines after line 0
pub slice_of_line-whole : (m : Parameters) (domain first line : ℕ) → first % m.sets ≡ 0 → slice_of_line m domain (first + line) ≡ slice_of_line m domain line
slice_of_line-whole m domain first line whole =
    let turns : first ≡ first / m.sets * m.sets = omega (arith, div-add-mod' first m.sets, whole) in
    let same : (first + line) % m.sets ≡ line % m.sets = ap (λ x. (x + line) % m.sets) turns ∙ mul-add-mod_self_right (first / m.sets) m.sets line in
    ap (λ set. slice_number m domain (slice_of m set)) same

-- numbers that pass a test which only one number can pass
pub length-filter_within : (p : ℕ → Bool) (c : ℕ) → ((d : ℕ) → p d ≡ true → (d == c) ≡ true) → (xs : List ℕ) → length (filter p xs) ≤ length (filter (λ d. d == c) xs)
length-filter_within p c one [] = omega arith
length-filter_within p c one (x ∷ xs) = elim (cases_Bool (p x)) [
  | inl is ↦ rw (is, one x is) (omega (arith, length-filter_within p c one xs))
  | inr not ↦ rw not (at (x == c) (length-filter_within p c one xs))
]
  where
    at : (b : Bool) → length (filter p xs) ≤ length (filter (λ d. d == c) xs) → length (filter p xs) ≤ length (cond b (x ∷ filter (λ d. d == c) xs) (filter (λ d. d == c) xs))
    at true le = omega (arith, le)
    at false le = le
