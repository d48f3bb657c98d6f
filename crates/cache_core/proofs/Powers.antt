-- A power of two by its lowest bit.
use Rattle.std.proofs.Common.{◌≡◌, ℕ, ◌^◌, ◌<◌, ◌≤◌, ap, sym, ◌∙◌, arith, inl, inr}
use Rattle.std.specs.Prelude.{IsTrue}
use Rattle.std.specs.Int.{bit_at, is_power_of_two}
use lib.Count.{count_trailing_zeros}
use mir.Syntax.{w8}
use Rattle.std.proofs.lemmas.Bool.{cases_lt, eqb-true}
use Rattle.std.proofs.lemmas.Nat.{pow_pos}
use Rattle.std.proofs.lemmas.Nat.Bits.{bit_at-trailing_zeros, bit_at-pow_other}
use Rattle.lists.proofs.Powers.{count_ones-one}

-- two to the number of its trailing zeros
pub pow-trailing_zeros : (n : ℕ) → IsTrue (is_power_of_two n) → n ≤ 16 → n ≡ 2 ^ count_trailing_zeros 8 n
pow-trailing_zeros n power small =
    let k = count_ones-one n (eqb-true _ 1 power) in
    let some : 0 < n = omega (arith, k.1, pow_pos k.0) in
    let t : ℕ = count_trailing_zeros 8 n in
    let h = bit_at-trailing_zeros w8 n some (omega arith) in
    let one : bit_at n t ≡ 1 = h.1 in
    let same : t ≡ k.0 = elim (cases_lt t k.0) [
      | inl less ↦ absurd (let none : bit_at n t ≡ 0 = ap (λ x. bit_at x t) k.1 ∙ bit_at-pow_other k.0 t (λ e. omega (arith, e, less)) in omega arith)
      | inr more ↦ elim (cases_lt k.0 t) [
        | inl less ↦ absurd (let none : bit_at n t ≡ 0 = ap (λ x. bit_at x t) k.1 ∙ bit_at-pow_other k.0 t (λ e. omega (arith, e, less)) in omega arith)
        | inr back ↦ omega arith
      ]
    ] in
    k.1 ∙ ap (λ e. 2 ^ e) (sym same)
