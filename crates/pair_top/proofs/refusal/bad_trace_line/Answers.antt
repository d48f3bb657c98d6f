use Rattle.std.proofs.Common.{◌≤◌, length, decimal, arith}
use Rattle.std.proofs.lemmas.Grind.{common_steps}
use Rattle.std.proofs.lemmas.Fmt.{length-decimal-le}
use Rattle.pair_top.proofs.refusal.bad_trace_line.Goals as goal

pub push_all-requires-2 : goal.push_all-requires-2
push_all-requires-2 c =
    let short : length (decimal c.from.result) ≤ 20 = length-decimal-le 20 c.from.result (omega arith) (omega arith) (omega arith) in
    grind (arith, common_steps)
