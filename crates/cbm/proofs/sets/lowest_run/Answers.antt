use Rattle.std.proofs.Common.{◌+◌, ℕ, sym, ap, ◌∙◌, arith, refl, w64}
use Rattle.std.specs.Int.{trailing_zeros}
use Rattle.std.proofs.lemmas.Nat.{pow_pos}
use Rattle.cbm.specs.Masks.{lowest_run, ways_of}
use Rattle.cbm.proofs.laws.LowestRuns.{trailing_zeros-lowest_run, shifted_one, mod_pow-some, ways_of-mod_pow}
use Rattle.cbm.proofs.laws.Ways.{ways_of-zero}
use Rattle.cbm.proofs.sets.lowest_run.Goals as goal

pub returns-then-mask-eq0-clause-run : goal.returns-then-mask-eq0-clause-run
returns-then-mask-eq0-clause-run c =
    ways_of-zero 0 refl ∙ ap lowest_run (sym (ways_of-zero c.args.mask c.if-mask-eq0.true))

pub overflow_shl-result : goal.overflow_shl-result
overflow_shl-result c =
    let f = trailing_zeros-lowest_run c.from-bits.result (trailing_zeros w64 c.from-bits.result) c.trailing_ones-run.result (omega arith) (omega arith) refl c.trailing_ones-run.ensures in
    omega (arith, f.within)

pub nonzero_rem-result : goal.nonzero_rem-result
nonzero_rem-result c =
    let low = trailing_zeros w64 c.from-bits.result in
    let f = trailing_zeros-lowest_run c.from-bits.result low c.trailing_ones-run.result (omega arith) (omega arith) refl c.trailing_ones-run.ensures in
    rw (shifted_one (low + c.trailing_ones-run.result) f.within) (pow_pos _)

pub returns-clause-run : goal.returns-clause-run
returns-clause-run c =
    let low = trailing_zeros w64 c.from-bits.result in
    let f = trailing_zeros-lowest_run c.from-bits.result low c.trailing_ones-run.result (omega arith) (omega arith) refl c.trailing_ones-run.ensures in
    rw (shifted_one (low + c.trailing_ones-run.result) f.within)
    (ways_of-mod_pow c.from-bits.result low c.trailing_ones-run.result f ∙ sym f.run_is ∙ ap (λ (m : ℕ). lowest_run (ways_of m)) c.from-bits.ensures)

pub returns-clause-empty : goal.returns-clause-empty
returns-clause-empty c =
    let low = trailing_zeros w64 c.from-bits.result in
    let f = trailing_zeros-lowest_run c.from-bits.result low c.trailing_ones-run.result (omega arith) (omega arith) refl c.trailing_ones-run.ensures in
    rw (shifted_one (low + c.trailing_ones-run.result) f.within)
    ((λ none. absurd (mod_pow-some c.from-bits.result low c.trailing_ones-run.result f none)), (λ none. absurd (omega arith)))
