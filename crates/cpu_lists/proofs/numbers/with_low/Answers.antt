use Rattle.std.proofs.Common.{◌||◌, Bool, ap, ◌∙◌}
use Rattle.cpu_lists.specs.Sets.{has}
use Rattle.cpu_lists.proofs.LowParts.{has-bit_or}
use Rattle.cpu_lists.proofs.numbers.with_low.Goals as goal

pub returns : goal.returns
returns c k lt = has-bit_or c.args.set c.low_part.result k ∙ ap (λ (b : Bool). has c.args.set k || b) (c.low_part.ensures k lt)
