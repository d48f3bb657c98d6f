use Rattle.std.proofs.Common.{◌<◌, ◌^◌, arith, bit_and, w32}
use Rattle.std.specs.Int.{trailing_zeros}
use Rattle.std.proofs.lemmas.Nat.{and_le_l}
use Rattle.way_fill.proofs.EqualWays.{holds-none, holds-both, has_way-trailing_zeros}
use Rattle.way_fill.proofs.finding.find_at_once.Goals as goal

pub returns-then-ways-eq0 : goal.returns-then-ways-eq0
returns-then-ways-eq0 c way lt holds = holds-none c.args.lines.now c.args.valid c.args.line c.equal_ways.result way c.equal_ways.ensures c.if-ways-eq0.true lt holds

pub returns : goal.returns
returns c =
    let ways = bit_and c.equal_ways.result c.args.valid in
    let some : 0 < ways = omega arith in
    let fits : ways < 2 ^ 32 = omega (arith, and_le_l c.equal_ways.result c.args.valid) in
    holds-both c.args.lines.now c.args.valid c.args.line c.equal_ways.result (trailing_zeros w32 ways) c.equal_ways.ensures (has_way-trailing_zeros ways some fits)
