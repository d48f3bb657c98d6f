use Rattle.std.specs.Prelude.{drop, length, ◌-◌}
use Rattle.machine.specs.Maps.{parameters_of}
use Rattle.run_law.specs.LookLists.{AreReady, rooms_of}
use Rattle.run_law.proofs.look_lists.LookLists.create.Given as goal

abbrev pub invariant-loop-k : goal.invariant-loop-k
invariant-loop-k l = AreReady (rooms_of (parameters_of l.m) (drop (length l.ops - l.k) l.ops)) l.lists.items
