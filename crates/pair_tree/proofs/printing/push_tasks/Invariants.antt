use Rattle.std.proofs.Common.{◌≡◌, ◌+◌, ◌*◌, ◌≤◌, ◌++◌, length, take}
use Rattle.std.specs.List.{flat_map}
use Rattle.pair_tree.specs.Printed.{task_line}
use Rattle.pair_tree.proofs.printing.push_tasks.Given as goal

abbrev pub invariant-loop-b : goal.invariant-loop-b
invariant-loop-b l = record {
  bytes : l.out.bytes ≡ l.initial.out.bytes ++ flat_map (task_line l.gid) (take l.b-index l.tasks);
  spare : l.out.spare + length (flat_map (task_line l.gid) (take l.b-index l.tasks)) ≡ l.initial.out.spare;
  short : length (flat_map (task_line l.gid) (take l.b-index l.tasks)) ≤ 21 * l.b-index;
}
