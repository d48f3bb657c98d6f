use Rattle.std.proofs.Common.{◌≡◌, ◌^◌, take, sym, arith}
use Rattle.std.specs.Str.Parse.{digits_value, AllDigits}
use Rattle.std.proofs.lemmas.List.{take_all}
use Rattle.std.proofs.lemmas.Int.Digits.{digits_value_more, digits_more}
use Rattle.num_text.proofs.Numerals.{below-digits, few_digits-lt}
use Rattle.num_text.proofs.reading.few_digits.Goals as goal

pub overflow_mul-n : goal.overflow_mul-n
overflow_mul-n c =
    let digit = rw c.from.ensures at c.in-Some.ensures.value.0 in
    let small = few_digits-lt c.args.base c.loop-b.b-index c.args.text.now c.requires.high c.requires.few (omega arith) c.loop-b.invariant.digits digit in
    rw (c.from-in-loop-b.ensures, c.loop-b.invariant.value) (omega (arith, small))

pub overflow_add-n : goal.overflow_add-n
overflow_add-n c =
    let digit = rw c.from.ensures at c.in-Some.ensures.value.0 in
    let small = few_digits-lt c.args.base c.loop-b.b-index c.args.text.now c.requires.high c.requires.few (omega arith) c.loop-b.invariant.digits digit in
    rw (c.from-in-loop-b.ensures, c.from-in-loop-b-2.ensures, c.in-Some.ensures.value.1, c.from.ensures, c.loop-b.invariant.value) (omega (arith, small))

pub loop-b-preserved : goal.loop-b-preserved
loop-b-preserved c =
    let digit = rw c.from.ensures at c.in-Some.ensures.value.0 in
    let small = few_digits-lt c.args.base c.loop-b.b-index c.args.text.now c.requires.high c.requires.few (omega arith) c.loop-b.invariant.digits digit in
    let next = digits_value_more c.args.base c.args.text.now c.loop-b.b-index (omega arith) in
    record {
      fits = rw (c.from-in-loop-b.ensures, c.from-in-loop-b-2.ensures, c.in-Some.ensures.value.1, c.from.ensures, c.loop-b.invariant.value) small;
      value = rw (c.from-in-loop-b.ensures, c.from-in-loop-b-2.ensures, c.in-Some.ensures.value.1, c.from.ensures, c.loop-b.invariant.value) (sym next);
      digits = digits_more c.args.base c.args.text.now c.loop-b.b-index (omega arith) c.loop-b.invariant.digits digit;
    }

pub returns : goal.returns
returns c =
    let all : take c.loop-b.b-index c.args.text.now ≡ c.args.text.now = take_all c.loop-b.b-index c.args.text.now (omega arith) in
    let digits : AllDigits c.args.base c.args.text.now = rw all at c.loop-b.invariant.digits in
    let value : c.loop-b.n ≡ digits_value c.args.base c.args.text.now = rw all at c.loop-b.invariant.value in
    rw value (below-digits c.args.base (2 ^ 64) c.args.text.now (grind arith) digits (rw (← value) c.loop-b.invariant.fits))
