use Rattle.std.proofs.Common.{◌≡◌, ◌⊎◌, length, true, false, inl, inr, sym, ◌∙◌, arith, refl}
use Rattle.std.proofs.lemmas.Bool.{lt-ltb, le-ltb}
use Rattle.cbm.specs.Masks.{ways_of}
use Rattle.cbm.proofs.Faults.{checked-gaps}
use Rattle.cbm.proofs.laws.Validity.{is_out_of_range-below, checked-zero, checked-whole, checked-past}
use Rattle.lists.proofs.Bits.{div_pow-zero}
use Rattle.cbm.proofs.validity.check.Goals as goal
use Rattle.cbm.proofs.validity.check.Goals.{then-bits-eq0-via-then-bits-eq0, then-bits-eq0-via-else-bits-eq0+then-bits-g-ne0, else-not-g-via-then-not-g+else-run-mask, else-not-g-via-else-not-g}

pub returns-then-bits-eq0-clause-exact : goal.returns-then-bits-eq0-clause-exact
returns-then-bits-eq0-clause-exact c =
    elim c.then-bits-eq0.branch [
      | then-bits-eq0-via-then-bits-eq0 w ↦ checked-zero c.args.g.now c.args.bits w.if-bits-eq0.true
      | then-bits-eq0-via-else-bits-eq0+then-bits-g-ne0 w ↦ checked-past c.args.g.now c.args.bits (omega arith) w.if-bits-g-ne0.true
    ]

pub returns-then-run-mask-clause-exact : goal.returns-then-run-mask-clause-exact
returns-then-run-mask-clause-exact c =
    let g = c.args.g.now in
    let within = is_out_of_range-below g c.args.bits (omega arith) (omega arith) (div_pow-zero c.args.bits g.len c.if-bits-g-ne0.false) in
    checked-gaps g c.args.bits c.lowest_run-run.result (omega arith) (omega arith) within c.lowest_run-run.ensures.run c.if-not-g.true c.if-run-mask.true

pub returns-then-count-from-clause-exact : goal.returns-then-count-from-clause-exact
returns-then-count-from-clause-exact c =
    let g = c.args.g.now in
    let run = c.lowest_run-run.result in
    let within = is_out_of_range-below g c.args.bits (omega arith) (omega arith) (div_pow-zero c.args.bits g.len c.if-bits-g-ne0.false) in
    let whole : ((g.sparse ≡ false) × (run ≡ c.args.bits)) ⊎ (g.sparse ≡ true) = elim c.else-not-g.branch [
      | else-not-g-via-then-not-g+else-run-mask w ↦ inl (w.if-not-g.true, w.if-run-mask.false)
      | else-not-g-via-else-not-g w ↦ inr w.if-not-g.false
    ] in
    sym (checked-whole g c.args.bits run within c.lowest_run-run.ensures.run whole ∙ rw (lt-ltb (length (ways_of run)) g.min (omega arith)) refl)

pub returns-clause-exact : goal.returns-clause-exact
returns-clause-exact c =
    let g = c.args.g.now in
    let run = c.lowest_run-run.result in
    let within = is_out_of_range-below g c.args.bits (omega arith) (omega arith) (div_pow-zero c.args.bits g.len c.if-bits-g-ne0.false) in
    let whole : ((g.sparse ≡ false) × (run ≡ c.args.bits)) ⊎ (g.sparse ≡ true) = elim c.else-not-g.branch [
      | else-not-g-via-then-not-g+else-run-mask w ↦ inl (w.if-not-g.true, w.if-run-mask.false)
      | else-not-g-via-else-not-g w ↦ inr w.if-not-g.false
    ] in
    sym (checked-whole g c.args.bits run within c.lowest_run-run.ensures.run whole ∙ rw (le-ltb (length (ways_of run)) g.min (omega arith)) refl)

pub returns-clause-range : goal.returns-clause-range
returns-clause-range c = let fits = div_pow-zero c.args.bits c.args.g.now.len c.if-bits-g-ne0.false in (omega arith, omega (arith, fits))
