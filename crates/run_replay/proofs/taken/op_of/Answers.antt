use Rattle.std.proofs.Common.{sym}
use Rattle.run_replay.proofs.taken.op_of.Goals as goal

pub returns : goal.returns
returns c = record { there = sym c.in-Some.ensures.op; named = c.in-Some.ensures.named; short = c.in-Some.ensures.short; fit = c.in-Some.ensures.fit }
