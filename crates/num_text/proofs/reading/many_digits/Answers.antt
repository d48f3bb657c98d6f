use Rattle.std.proofs.Common.{◌≡◌, ◌+◌, ◌*◌, ◌≤◌, ◌^◌, take, arith}
use Rattle.std.specs.Str.Parse.{digits_value, AllDigits}
use Rattle.std.proofs.lemmas.List.{take_all}
use Rattle.std.proofs.lemmas.Grind.{common_steps}
use Rattle.std.proofs.lemmas.Int.Digits.{digits_value_more, digits_more}
use Rattle.num_text.proofs.Numerals.{below-too_great, below-digits}
use Rattle.num_text.proofs.reading.many_digits.Goals as goal

pub returns-in_default-checked_mul : goal.returns-in_default-checked_mul
returns-in_default-checked_mul c =
    let next = digits_value_more c.args.base c.args.text.now c.loop-b.b-index c.loop-b-test.true in
    let great : 2 ^ 64 ≤ c.loop-b.n * c.args.base = grind (arith, c.in_default-checked_mul.ensures) in
    below-too_great c.args.base (2 ^ 64) (c.loop-b.b-index + 1) c.args.text.now (omega arith) (rw next (grind (arith, great)))

pub returns-in_default-checked_add : goal.returns-in_default-checked_add
returns-in_default-checked_add c =
    let next = digits_value_more c.args.base c.args.text.now c.loop-b.b-index c.loop-b-test.true in
    below-too_great c.args.base (2 ^ 64) (c.loop-b.b-index + 1) c.args.text.now (omega arith) (rw next (grind (arith, c.in_default-checked_add.ensures, c.in-Some-checked_mul.ensures, c.in-Some.ensures)))

pub loop-b-preserved : goal.loop-b-preserved
loop-b-preserved c = record {
  fits = grind (arith, c.in-Some-checked_add.ensures);
  value = grind (arith, common_steps, digits_value_more, c.in-Some-checked_add.ensures, c.in-Some-checked_mul.ensures);
  digits = grind (arith, common_steps, digits_more);
}

pub returns : goal.returns
returns c =
    let all : take c.loop-b.b-index c.args.text.now ≡ c.args.text.now = take_all c.loop-b.b-index c.args.text.now (omega arith) in
    let digits : AllDigits c.args.base c.args.text.now = rw all at c.loop-b.invariant.digits in
    let value : c.loop-b.n ≡ digits_value c.args.base c.args.text.now = rw all at c.loop-b.invariant.value in
    rw value (below-digits c.args.base (2 ^ 64) c.args.text.now (grind arith) digits (rw (← value) c.loop-b.invariant.fits))
