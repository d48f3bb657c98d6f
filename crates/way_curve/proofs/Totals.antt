-- Sums of the first numbers of a list.
use Rattle.std.proofs.Common.{◌≡◌, ℕ, ◌+◌, ◌*◌, ◌<◌, ◌≤◌, true, false, nat_lt, List, length, take, get_or, set, sum, arith, ◌∙◌, ap, inl, inr}
use Rattle.std.proofs.lemmas.Bool.{cases_lt, lt-ltb, le-ltb}
use Rattle.std.proofs.lemmas.List.{get_or-take, length-take-le, take-set-le}
use Rattle.std.proofs.lemmas.List.Sums.{sum_by-set}
use Rattle.std.proofs.Math.Seq.{take-set-lt}
use Rattle.lists.specs.Sums.{one_if}

-- more at a place counts among the first where the place does
pub sum-take_add : (l : List ℕ) (place more most : ℕ) → place < length l → most ≤ length l
    → sum (take most (set l place (get_or l place 0 + more))) ≡ sum (take most l) + more * one_if (nat_lt place most)
sum-take_add l place more most lt le = elim (cases_lt place most) [
  | inl h ↦
      let test : nat_lt place most ≡ true = lt-ltb place most h in
      let within : place < length (take most l) = omega (arith, length-take-le most l le) in
      let written : sum (set (take most l) place (get_or l place 0 + more)) + get_or (take most l) place 0 ≡ sum (take most l) + (get_or l place 0 + more) =
      sum_by-set (λ (x : ℕ). x) (take most l) place (get_or l place 0 + more) 0 within in
      let read : get_or (take most l) place 0 ≡ get_or l place 0 = get_or-take most l place 0 h in
      let added : sum (set (take most l) place (get_or l place 0 + more)) ≡ sum (take most l) + more = omega (arith, written, read) in
      ap sum (take-set-lt most l place (get_or l place 0 + more) h) ∙ rw test (omega (arith, added))
  | inr h ↦
      let test : nat_lt place most ≡ false = le-ltb place most h in
      ap sum (take-set-le most l place (get_or l place 0 + more) h) ∙ rw test (omega arith)
]

-- one more at a place
pub sum-take_set : (l : List ℕ) (place most : ℕ) → place < length l → most ≤ length l
    → sum (take most (set l place (get_or l place 0 + 1))) ≡ sum (take most l) + one_if (nat_lt place most)
sum-take_set l place most lt le = omega (arith, sum-take_add l place 1 most lt le)
