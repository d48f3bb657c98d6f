-- How many ways of a mask are below a way.
use Rattle.std.proofs.Common.{◌≡◌, ℕ, zero, suc, ◌<◌, true, inl, inr, arith}
use Rattle.std.proofs.lemmas.Bool.{cases_lt, cases_order}
use Rattle.cache_core.specs.History.{ways_below}
use Rattle.cbm.specs.Masks.{has_way}

-- fewer ways are below one of a mask's ways than below a later place
pub ways_below-lt : (mask way n : ℕ) → way < n → has_way mask way ≡ true → ways_below mask way < ways_below mask n
ways_below-lt mask way zero less has = absurd (omega arith)
ways_below-lt mask way (suc n) less has = elim (cases_lt way n) [
  | inl lt ↦ let rest : ways_below mask way < ways_below mask n = ways_below-lt mask way n lt has in omega arith
  | inr le ↦ let same : n ≡ way = omega arith in rw (same, has) (omega arith)
]

-- so that ways of a mask are the same where as many are below them
pub ways_below-same : (mask v w : ℕ) → has_way mask v ≡ true → has_way mask w ≡ true → ways_below mask v ≡ ways_below mask w → v ≡ w
ways_below-same mask v w here there same = elim (cases_order v w) [
  | inl is ↦ is
  | inr (inl less) ↦ absurd (omega (arith, ways_below-lt mask v w less here, same))
  | inr (inr more) ↦ absurd (omega (arith, ways_below-lt mask w v more there, same))
]
