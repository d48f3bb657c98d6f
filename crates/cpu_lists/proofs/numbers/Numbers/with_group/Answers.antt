use Rattle.std.proofs.Common.{◌+◌, ◌-◌, ◌*◌, ◌^◌, sym, ◌∙◌, arith}
use Rattle.cpu_lists.specs.Sets.{has}
use Rattle.cpu_lists.proofs.Bits.{has-bit_or_group, has-mul_pow_add, has-div_pow}
use Rattle.cpu_lists.proofs.Additions.{IsBeyond-same}
use Rattle.cpu_lists.proofs.numbers.Numbers.with_group.Goals as goal

pub returns : goal.returns
returns c value collected = record {
  low = λ k lt. rw c.from.ensures (has-bit_or_group value c.args.self.low c.args.group k collected.low c.ranges.group.fits lt);
  high = IsBeyond-same (λ k. has value (k - 32)) (has (value * 2 ^ 32 + c.args.group)) c.raised.result (λ k le. sym (has-mul_pow_add value c.args.group k c.ranges.group.fits le))
      (c.raised.ensures value collected.high (λ k lt. has-div_pow c.args.self.low k ∙ collected.low (k + 32) (omega arith)));
}
