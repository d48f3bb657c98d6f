-- What the code computes of masks: whether their ways exist, and the mask of every way.
use Rattle.std.proofs.Common.{◌≡◌, ℕ, ◌-◌, ◌/◌, ◌^◌, ◌<◌, ◌≤◌, eqb, ltb, leb, inl, inr, sym, ap, ◌∙◌, arith, lit<, lt_of_lt_of_le}
use Rattle.std.specs.List.{range_with_len}
use Rattle.std.proofs.lemmas.Bool.{lt-ltb, le-ltb, le-leb, ne_eqb, eq-eqb, cases_lt}
use Rattle.std.proofs.lemmas.Nat.Bits.{ones_shr}
use Rattle.std.proofs.Math.Nat.{div-eq_of_lt, pow-le-pow_right}
use Rattle.cbm.specs.Masks.{ways_of}
use Rattle.lists.proofs.Bits.{div_pow-zero}
use Rattle.machine.proofs.laws.EveryWay.{ways_of-ones}

-- a mask of 32 bits has only ways that exist where there are 32
pub leb-wide : (mask ways : ℕ) → mask < 2 ^ 32 → 32 ≤ ways → leb 32 ways ≡ ltb mask (2 ^ ways)
leb-wide mask ways small wide =
    let below : mask < 2 ^ ways = lt_of_lt_of_le small (pow-le-pow_right {n = 2} (lit< tt) wide) in
    le-leb 32 ways wide ∙ sym (lt-ltb mask (2 ^ ways) below)

-- and else where nothing is left of it past them
pub eqb-shifted : (mask ways : ℕ) → eqb (mask / 2 ^ ways) 0 ≡ ltb mask (2 ^ ways)
eqb-shifted mask ways = elim (cases_lt mask (2 ^ ways)) [
  | inl lt ↦ eq-eqb (mask / 2 ^ ways) 0 (div-eq_of_lt lt) ∙ sym (lt-ltb mask (2 ^ ways) lt)
  | inr le ↦ ne_eqb (mask / 2 ^ ways) 0 (λ none. absurd (over (div_pow-zero mask ways none) le)) ∙ sym (le-ltb mask (2 ^ ways) le)
]
  where
    over : mask < 2 ^ ways → 2 ^ ways ≤ mask → ⊥
    over lt le = omega arith

-- 32 ones, shifted
pub ways_of-full : (ways : ℕ) → ways ≤ 32 → ways_of ((2 ^ 32 - 1) / 2 ^ (32 - ways)) ≡ range_with_len 0 ways
ways_of-full ways le =
    let n : 32 - (32 - ways) ≡ ways = omega arith in
    ap ways_of (ones_shr 32 (32 - ways) (omega arith) ∙ ap (λ (k : ℕ). 2 ^ k - 1) n) ∙ ways_of-ones ways (omega arith)
