use Rattle.std.proofs.Common.{◌≡◌, [], inl, inr, get_or, Some, sym, ap, ◌∙◌, subst, arith}
use Rattle.std.proofs.lemmas.Bool.{cases_lt}
use Rattle.std.proofs.lemmas.Option.{get_or_from_slice_get, slice_get-get_or, slice_get_within}
use Rattle.journal_check.specs.Payments.{AreEnded, rest}
use Rattle.journal_check.specs.declared.trace.Step.{Step}
use Rattle.journal_check.proofs.laws.Told.{is_false, is_true}
use Rattle.machine.specs.Maps.{parameters_of}
use Rattle.run_law.specs.Journals.{At}
use Rattle.journal_check.proofs.payments.are_ended.Goals as goal

pub returns-then-not-is_ended : goal.returns-then-not-is_ended
returns-then-not-is_ended c =
    let m = parameters_of c.args.m.now in
    let steps = c.args.steps.now in
    let cursors = c.args.cursors.now in
    let k = c.loop-k.k in
    let step = c.index-steps-k.result in
    let there : At steps k step = slice_get-get_or steps k step c.loop-k-test.true ∙ ap (λ (s : Step). Some s) (sym c.index-steps-k.is) in
    is_false (AreEnded m c.args.i steps cursors)
    (λ ended. c.is_ended.ensures.some c.if-not-is_ended.true k (ended k (get_or cursors k 0) step there (slice_get-get_or cursors k 0 (omega (arith, c.loop-k-test.true, c.requires)))))

pub loop-k-preserved : goal.loop-k-preserved
loop-k-preserved c k at step below there cursor = elim (cases_lt k c.loop-k.k) [
  | inl before ↦ c.loop-k.invariant k at step before there cursor
  | inr after ↦
      let m = parameters_of c.args.m.now in
      let own = c.loop-k.k in
      let here : k ≡ own = omega (arith, below, after) in
      let there_too : At c.args.steps.now own step = subst (λ n. At c.args.steps.now n step) here there in
      let one : c.index-steps-k.result ≡ step = c.index-steps-k.is ∙ get_or_from_slice_get c.args.steps.now own step c.index-steps-k.result there_too in
      let from : get_or c.args.cursors.now own 0 ≡ at = get_or_from_slice_get c.args.cursors.now own at 0 (subst (λ n. At c.args.cursors.now n at) here cursor) in
      subst (λ n. rest m c.args.i k step n ≡ []) from
      (subst (λ (s : Step). rest m c.args.i k s (get_or c.args.cursors.now own 0) ≡ []) one (c.is_ended.ensures.none c.if-not-is_ended.false k))
]

pub returns : goal.returns
returns c =
    is_true (AreEnded (parameters_of c.args.m.now) c.args.i c.args.steps.now c.args.cursors.now)
    (λ k at step there cursor. c.loop-k.invariant k at step (let within = slice_get_within c.args.steps.now k step there in let over = c.loop-k-test.false in omega (arith, within, over)) there cursor)
