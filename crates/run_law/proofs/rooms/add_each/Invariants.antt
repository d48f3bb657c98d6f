use Rattle.std.proofs.Common.{◌*◌, take}
use Rattle.run_law.specs.Quotas.{HaveGrown, quotas_of}
use Rattle.run_law.proofs.rooms.add_each.Given as goal

abbrev pub invariant-loop-i : goal.invariant-loop-i
invariant-loop-i l = HaveGrown (λ i. quotas_of l.script.machine i (take l.i l.ops)) (257 * l.i) l.initial.rooms l.rooms
