-- The lowest way of a mask.
use Rattle.std.proofs.Common.{◌≡◌, ℕ, suc, zero, ◌+◌, ◌<◌, ap, subst, arith, ◌%◌, ◌^◌, ◌*◌, ◌/◌, inl, inr, List, length}
use Rattle.std.specs.Prelude.{IsTrue}
use Rattle.std.specs.Int.{bit_at}
use lib.Count.{count_trailing_zeros}
use mir.Syntax.{w32}
use Rattle.std.proofs.lemmas.Nat.{mod-pow-add}
use Rattle.std.proofs.lemmas.Nat.Bits.{bit_at-trailing_zeros}
use Rattle.std.proofs.lemmas.Bool.{cases_lt, eq-eqb, eqb-true}
use Rattle.cbm.specs.Masks.{has_way}
use Rattle.way_fill.specs.Sets.{IsLeast}

-- a mask with a bit below `ways` has such a way
has_way-some : (mask ways : ℕ) → 0 < mask % 2 ^ ways → (w : ℕ) × (w < ways) × IsTrue (has_way mask w)
has_way-some mask zero h = absurd (omega arith)
has_way-some mask (suc n) h =
    let next : suc n ≡ 1 + n = omega arith in
    let some : 0 < mask % 2 ^ (1 + n) = subst (λ k. 0 < mask % 2 ^ k) next h in
    let split : mask % 2 ^ (1 + n) ≡ mask / 2 ^ n % 2 ^ 1 * 2 ^ n + mask % 2 ^ n = mod-pow-add mask 1 n in
    elim (cases_lt 0 (mask % 2 ^ n)) [
      | inl low ↦ let r = has_way-some mask n low in (r.0, omega arith, r.2)
      | inr none ↦
          let bit : ℕ = mask / 2 ^ n % 2 in
          elim (cases_lt 0 bit) [
            | inl one ↦ (n, omega arith, eq-eqb bit 1 (omega arith))
            | inr clear ↦
                let off : bit ≡ 0 = omega arith in
                absurd (omega (arith, some, ap (λ b. b * 2 ^ n) off, split))
          ]
    ]

-- before any stamp was read, the lowest way of the mask has the least stamp
pub IsLeast-trailing_zeros : (used : List ℕ) (mask : ℕ) → mask < 2 ^ 32 → 0 < mask % 2 ^ length used → IsLeast used mask 0 (count_trailing_zeros 32 mask)
IsLeast-trailing_zeros used mask fits some =
    let one = has_way-some mask (length used) some in
    let positive : 0 < mask = elim (cases_lt 0 mask) [ inl l ↦ l | inr l ↦ absurd (let none : mask ≡ 0 = omega arith in omega (arith, some, ap (λ n. n % 2 ^ length used) none)) ] in
    let h = bit_at-trailing_zeros w32 mask positive fits in
    let t : ℕ = count_trailing_zeros 32 mask in
    let none_below : (w : ℕ) → w < t → IsTrue (has_way mask w) → ⊥ = λ w l is. let zero_bit : bit_at mask w ≡ 0 = h.2 w l in let one_bit : bit_at mask w ≡ 1 = eqb-true (bit_at mask w) 1 is in omega arith in
    record {
      within = elim (cases_lt one.0 t) [ inl l ↦ absurd (none_below one.0 l one.2) | inr l ↦ omega (arith, one.1, l) ];
      allowed = eq-eqb (bit_at mask t) 1 h.1;
      oldest = λ w l. absurd (omega arith);
      lowest = λ w l is. absurd (none_below w l is);
    }
