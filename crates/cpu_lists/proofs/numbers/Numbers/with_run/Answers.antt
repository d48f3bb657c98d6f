use Rattle.std.proofs.Common.{◌||◌, ◌∙◌, ap, Bool}
use Rattle.cpu_lists.specs.Lists.{is_within}
use Rattle.cpu_lists.proofs.numbers.Numbers.with_run.Goals as goal

pub returns : goal.returns
returns c test collected = record {
  low = λ k lt. c.with_low.ensures k lt ∙ ap (λ (b : Bool). b || is_within c.args.run k) (collected.low k lt);
  high = c.with_high.ensures test collected.high;
}
