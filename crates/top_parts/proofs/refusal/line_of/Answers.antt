use Rattle.std.proofs.Common.{◌≤◌, length, decimal, arith}
use Rattle.std.proofs.lemmas.Grind.{common_steps}
use Rattle.std.proofs.lemmas.Fmt.{length-decimal-le}
use Rattle.top_parts.proofs.refusal.line_of.Goals as goal

pub push_all-requires-2 : goal.push_all-requires-2
push_all-requires-2 c =
    let short : length (decimal c.from.result) ≤ 20 = length-decimal-le 20 c.from.result (omega arith) (omega arith) (omega arith) in
    grind (arith, common_steps)

pub push_all-requires-3 : goal.push_all-requires-3
push_all-requires-3 c =
    let short : length (decimal c.from.result) ≤ 20 = length-decimal-le 20 c.from.result (omega arith) (omega arith) (omega arith) in
    grind (arith, common_steps)

pub push-requires : goal.push-requires
push-requires c =
    let short : length (decimal c.from.result) ≤ 20 = length-decimal-le 20 c.from.result (omega arith) (omega arith) (omega arith) in
    grind (arith, common_steps)
