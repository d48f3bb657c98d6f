use Rattle.std.proofs.Common.{◌≡◌, ℕ, ◌==◌, ◌<◌, ◌||◌, Bool, true, false, ap, sym, ◌∙◌, subst, inl, inr, refl, w32, bit_or, ◌*◌, ◌^◌, ◌%◌}
use Rattle.std.proofs.lemmas.Bool.{cases_Bool, eqb-false, eqb-true}
use Rattle.std.proofs.lemmas.Nat.Bits.{bit_at_set_other, bit_at_set_same}
use Rattle.cbm.specs.Masks.{has_way}
use Rattle.run_counts.proofs.line_counts.with_way.Goals as goal

or-true : (b : Bool) → (b || true) ≡ true
or-true true = refl
or-true false = refl

or-false : (b : Bool) → (b || false) ≡ b
or-false true = refl
or-false false = refl

-- a way that was added is there, and the others stay
has_way-or : (word way other : ℕ) → way < 32 → has_way (bit_or word (1 * 2 ^ way % 4294967296)) other ≡ (has_way word other || (way == other))
has_way-or word way other few = elim (cases_Bool (way == other)) [
  | inl e ↦
      let is : way ≡ other = eqb-true way other e in
      rw e (subst (λ k. has_way (bit_or word (1 * 2 ^ way % 4294967296)) k ≡ true) is (ap (λ b. b == 1) (bit_at_set_same w32 word way few)) ∙ sym (or-true (has_way word other)))
  | inr e ↦ rw e (ap (λ b. b == 1) (bit_at_set_other w32 word way few other (λ same. eqb-false way other e (sym same))) ∙ sym (or-false (has_way word other)))
]

pub returns : goal.returns
returns c = λ other lt. has_way-or c.args.word c.args.way other c.requires
