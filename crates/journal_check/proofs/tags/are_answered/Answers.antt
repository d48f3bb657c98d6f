use Rattle.std.proofs.Common.{◌≡◌, ◌≤◌, inl, inr, true, false, length, get_or, sym, ap, ◌∙◌, subst, arith}
use Rattle.std.specs.Prelude.{IsTrue}
use Rattle.std.proofs.lemmas.Bool.{cases_lt}
use Rattle.std.proofs.lemmas.Option.{get_or_from_slice_get, slice_get-get_or, slice_get_within}
use Rattle.cache_core.specs.declared.entry.SliceEntry.{SliceEntry}
use Rattle.journal_check.proofs.PaidAccesses.{AccessesAreTrue-answered, IsPaid-epoch, answered-AccessesAreTrue}
use Rattle.journal_check.specs.Asks.{IsAnswered, IsPaid}
use Rattle.journal_check.specs.declared.asks.Ask.{Ask}
use Rattle.journal_check.proofs.laws.Told.{is_false, is_true}
use Rattle.run_law.specs.Clauses.{AccessesAreTrue}
use Rattle.run_law.specs.Journals.{At, slice_at}
use Rattle.journal_check.proofs.tags.are_answered.Goals as goal

-- an ask of no list
abbrev no_ask : Ask
no_ask = record { epoch = 0; slice = 0; position = 0 }

pub loop-n-init : goal.loop-n-init
loop-n-init c = record {
  replayed = c.requires.replayed;
  early = λ k ask low at. (let z : 0 ≤ ask.epoch = omega arith in z);
  answered = λ k ask below at. absurd (omega (arith, below));
}

pub answer-requires-clause-ask : goal.answer-requires-clause-ask
answer-requires-clause-ask c = c.requires.asks.each c.loop-n.n no_ask c.loop-n-test.true

pub answer-requires-clause-inside : goal.answer-requires-clause-inside
answer-requires-clause-inside c = (c.requires.asks.each c.loop-n.n no_ask c.loop-n-test.true).inside

pub answer-requires-clause-position : goal.answer-requires-clause-position
answer-requires-clause-position c =
    let ask = get_or c.args.asks.now c.loop-n.n no_ask in
    let it = c.requires.asks.each c.loop-n.n no_ask c.loop-n-test.true in
    slice_get_within (slice_at c.args.j.now ask.slice) ask.position it.entry it.there

pub answer-requires-clause-order : goal.answer-requires-clause-order
answer-requires-clause-order c =
    let asks = c.args.asks.now in
    let n = c.loop-n.n in
    c.loop-n.invariant.early n (get_or asks n no_ask) (let z : n ≤ n = omega arith in z) (slice_get-get_or asks n no_ask c.loop-n-test.true)

pub returns-then-not-answer : goal.returns-then-not-answer
returns-then-not-answer c =
    let script = c.args.script.now in
    let j = c.args.j.now in
    let asks = c.args.asks.now in
    let n = c.loop-n.n in
    let ask = get_or asks n no_ask in
    let at : At asks n ask = slice_get-get_or asks n no_ask c.loop-n-test.true in
    is_false (AccessesAreTrue script j)
    (λ all.
    let it = answered-AccessesAreTrue script j asks c.requires.asks all n ask at in
    let e = it.0 in
    let late = IsPaid-epoch script j.tree e it.3 it.4 in
    let epoch = it.2 in
    let low : ask.epoch ≤ length j.tree = omega (arith, late, epoch) in
    let held : IsAnswered script j ask = λ x there. (let first = it.1 in let own : x ≡ e = cc in subst (λ (y : SliceEntry). IsPaid script j.tree y) (sym own) it.4) in
    let shown = c.answer.ensures.answer.1 (low, held) in
    let wrong : true ≡ false = sym shown ∙ c.if-not-answer.true in
    cc)

pub loop-n-preserved : goal.loop-n-preserved
loop-n-preserved c =
    let script = c.args.script.now in
    let j = c.args.j.now in
    let asks = c.args.asks.now in
    let n = c.loop-n.n in
    let ask = get_or asks n no_ask in
    let at : At asks n ask = slice_get-get_or asks n no_ask c.loop-n-test.true in
    let shown : IsTrue c.answer.result = c.if-not-answer.false in
    record {
      replayed = c.answer.ensures.replayed shown;
      early = λ k later low there.
          let within = slice_get_within asks k later there in
          let order = c.requires.sorted n k no_ask (omega (arith, low)) within in
          let own : get_or asks k no_ask ≡ later = get_or_from_slice_get asks k later no_ask there in
          let epoch = ap (λ (a : Ask). a.epoch) own in
          omega (arith, order, epoch);
      answered = λ k other below there. elim (cases_lt k n) [
        | inl before ↦ c.loop-n.invariant.answered k other before there
        | inr after ↦
            let here : n ≡ k = omega (arith, below, after) in
            let at_k : At asks k ask = subst (λ i. At asks i ask) here at in
            let own : ask ≡ other = cc in
            subst (λ (a : Ask). IsAnswered script j a) own (c.answer.ensures.answer.0 shown).1
      ];
    }

pub returns : goal.returns
returns c =
    let script = c.args.script.now in
    let j = c.args.j.now in
    let asks = c.args.asks.now in
    is_true (AccessesAreTrue script j)
    (AccessesAreTrue-answered script j asks c.requires.asks (λ k ask at. c.loop-n.invariant.answered k ask (let within = slice_get_within asks k ask at in omega (arith, within, c.loop-n-test.false)) at))
