use Rattle.std.proofs.Common.{◌≡◌, ℕ, zero, suc, ◌<◌, ◌^◌, eqb, not, bit_and, sym, arith, refl}
use Rattle.std.proofs.lemmas.Bool.{ne_eqb}
use Rattle.std.proofs.lemmas.Nat.{and_le_l}
use Rattle.cbm.specs.Masks.{overlaps}
use Rattle.cbm.proofs.Counts.{overlaps-none, overlaps-some}
use Rattle.cbm.proofs.sets.overlaps.Goals as goal

common : (a b n : ℕ) → bit_and a b ≡ n → n < 2 ^ 64 → not (eqb n 0) ≡ overlaps a b
common a b zero e small = sym (overlaps-none a b e)
common a b (suc n) e small = rw (ne_eqb (suc n) 0 (λ none. absurd (omega arith))) (sym (overlaps-some a b (λ none. absurd (omega arith)) (omega arith)))

pub returns : goal.returns
returns c = common c.args.a c.args.b (bit_and c.args.a c.args.b) refl (omega (arith, and_le_l c.args.a c.args.b))
