use Rattle.std.proofs.Common.{◌*◌, take}
use Rattle.std.specs.Prelude.{sum_by}
use Rattle.run_law.specs.Quotas.{HaveGrown, access_quota}
use Rattle.run_law.proofs.rooms.add_accesses.Given as goal

abbrev pub invariant-loop-i : goal.invariant-loop-i
invariant-loop-i l = HaveGrown (λ i. sum_by (access_quota l.script.machine i) (take l.i l.ops)) (257 * l.i) l.initial.rooms l.rooms
