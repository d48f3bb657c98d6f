use Rattle.std.proofs.Common.{arith}
use Rattle.cpu_lists.proofs.LowestNumbers.{IsPart, from-le-lowest, has-lowest, has-before_lowest}
use Rattle.cpu_lists.proofs.runs.next.Goals as goal

pub returns : goal.returns
returns c =
    let part : IsPart c.args.set c.chosen.result c.rest.result c.args.from c.lowest.result c.args.wanted = record {
      below = c.rest.ensures.below;
      above = c.rest.ensures.above;
      yes_chosen = c.chosen.ensures.chosen;
      no_chosen = c.chosen.ensures.others;
      found = c.lowest.ensures.found;
      passed = c.lowest.ensures.passed;
    } in
    record {
      low = from-le-lowest c.args.set c.chosen.result c.rest.result c.args.from c.lowest.result c.args.wanted (omega arith) part;
      high = c.lowest.ensures.limit;
      found = has-lowest c.args.set c.chosen.result c.rest.result c.args.from c.lowest.result c.args.wanted (omega arith) part;
      passed = has-before_lowest c.args.set c.chosen.result c.rest.result c.args.from c.lowest.result c.args.wanted part c.lowest.ensures.limit;
    }
