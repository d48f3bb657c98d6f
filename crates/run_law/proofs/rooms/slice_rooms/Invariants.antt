use Rattle.std.proofs.Common.{◌*◌, ◌^◌, take}
use Rattle.std.specs.Prelude.{sum_by}
use Rattle.script_ops.specs.Values.{threads_of}
use Rattle.run_law.specs.Quotas.{HaveGrown, quotas_of}
use Rattle.run_law.proofs.rooms.slice_rooms.Given as goal

abbrev pub invariant-loop-t : goal.invariant-loop-t
invariant-loop-t l = HaveGrown (λ i. sum_by (quotas_of l.script.machine i) (take l.t (threads_of l.script))) (l.t * 2 ^ 30) l.initial.rooms.items l.rooms.items
