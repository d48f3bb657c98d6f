use Rattle.std.proofs.Common.{◌≡◌, ◌++◌, map, take, drop}
use Rattle.private_lru.specs.Keeping.{span_on}
use Rattle.private_lru.proofs.keeping.keep_on.Given as goal

abbrev pub invariant-loop-i : goal.invariant-loop-i
invariant-loop-i g l = l.spans.items ≡ map (span_on (g.S.HoldsAt.holds l.state) l.epoch) (take l.i l.initial.spans.items) ++ drop l.i l.initial.spans.items
