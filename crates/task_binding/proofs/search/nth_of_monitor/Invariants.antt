use Rattle.std.proofs.Common.{◌≡◌}
use Rattle.std.specs.List.{slice_get}
use Rattle.task_binding.specs.Bindings.{has_monitor}
use Rattle.task_binding.proofs.Membership.{members_from}
use Rattle.task_binding.proofs.search.nth_of_monitor.Given as goal

abbrev pub invariant-loop-b : goal.invariant-loop-b
invariant-loop-b l = slice_get (members_from (has_monitor l.group) l.bindings 0) l.i ≡ slice_get (members_from (has_monitor l.group) l.bindings l.b-index) l.left
